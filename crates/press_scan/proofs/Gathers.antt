-- One token more in the list of attributes.
use Rattle.std.proofs.Common.{◌≡◌, ℕ, ◌+◌, ◌<◌, ◌≤◌, List, [], ◌∷◌, length, arith, subst, sym, ap, refl, ◌∙◌, Option, Some, None}
use Rattle.press_scan.specs.Places.{IsFirst}
use Rattle.press_scan.specs.Shortcodes.{cut}
use Rattle.press_scan.specs.Tokens.{NoSpace, IsToken, AreTokens}
use Rattle.press_scan.specs.Attributes.{AttsSoFar, add_token, add_tokens, name_of, IsAttributes, Gathers}
use Rattle.press_scan.specs.declared.att.Att.{Att}
use Rattle.press_scan.specs.declared.token.Token.{Token}

abbrev pub none_found : AttsSoFar
none_found = record { atts = []; next = 0 }

-- the rest of the tokens, whatever they are, leads to the attributes of the whole
abbrev pub Leads : List ℕ → ℕ → List Att → ℕ → Type 0
Leads text at atts next = (rest : List Token) → AreTokens text at rest → (ts : List Token) × AreTokens text 0 ts × (add_tokens text none_found ts ≡ add_tokens text (record { atts = atts; next = next }) rest)

pub leads_at_first : (text : List ℕ) → Leads text 0 [] 0
leads_at_first text rest are = (rest, are, refl)

pub leads_to_all : (text : List ℕ) (at place : ℕ) (atts : List Att) (next : ℕ) → Leads text at atts next → place ≡ length text → IsFirst (NoSpace text) at place → IsAttributes text atts
leads_to_all text at place atts next leads end first =
    let all = leads [] (subst (λ (n : ℕ). IsFirst (NoSpace text) at n) end first) in
    (all.0, all.1, sym (ap (λ (f : AttsSoFar). f.atts) all.2))

same_found : (f : AttsSoFar) (atts : List Att) (next : ℕ) → atts ≡ f.atts → next ≡ f.next → f ≡ record { atts = atts; next = next }
same_found f atts next p q =
    let first : f ≡ record { atts = atts; next = f.next } = ap (λ (x : List Att). let g : AttsSoFar = record { atts = x; next = f.next } in g) (sym p) in
    first ∙ ap (λ (n : ℕ). let g : AttsSoFar = record { atts = atts; next = n } in g) (sym q)

pub leads_more : (text : List ℕ) (at place : ℕ) (t : Token) (atts atts' : List Att) (next next' : ℕ) → Leads text at atts next → IsFirst (NoSpace text) at place → place < length text → IsToken text place t → Gathers atts next atts' next' text t → Leads text t.end atts' next'
leads_more text at place t atts atts' next next' leads first below is g rest are =
    let all = leads (t ∷ rest) (place, first, below, is, are) in
    let same : add_token (record { atts = atts; next = next }) (name_of text t.name) (cut text t.value) ≡ record { atts = atts'; next = next' } = same_found (add_token (record { atts = atts; next = next }) (name_of text t.name) (cut text t.value)) atts' next' g.0 g.1 in
    (all.0, all.1, all.2 ∙ ap (λ (f : AttsSoFar). add_tokens text f rest) same)

next_of : (f : AttsSoFar) (name : Option (List ℕ)) (value : List ℕ) → (add_token f name value).next ≤ f.next + 1
next_of f (Some name) value = omega arith
next_of f None [] = omega arith
next_of f None (b ∷ bs) = omega arith

pub next_more : (atts atts' : List Att) (next next' : ℕ) (text : List ℕ) (t : Token) → Gathers atts next atts' next' text t → next' ≤ next + 1
next_more atts atts' next next' text t g = subst (λ (n : ℕ). n ≤ next + 1) (sym g.1) (next_of (record { atts = atts; next = next }) (name_of text t.name) (cut text t.value))

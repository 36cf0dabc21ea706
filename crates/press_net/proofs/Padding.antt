-- What is put behind the bytes that came, read by read.
use Rattle.std.proofs.Common.{◌≡◌, ℕ, ◌+◌, ◌≤◌, ◌⊎◌, inl, inr, List, [], ◌∷◌, ◌++◌, length, Ok, ap, sym, ◌∙◌, refl, subst, arith, append-nil, append_assoc, length-append, Option, None, Some, Result, Err}
use Rattle.httparse.proofs.GrammarLemmas.{ReadsRequest-append, request_prefix_free}
use Rattle.press_http.specs.declared.fault.HttpFault.{HttpFault}
use Rattle.press_http.specs.Bodies.{length_of}
use Rattle.press_http.specs.Reads.{Reads, seen_by}
use Rattle.press_http.specs.Requests.{WantsMore}
use Rattle.press_net.specs.declared.request_buffer.Padded.{Padded}
use Rattle.press_net.specs.Heads.{IsWanted}
use Rattle.press_net.specs.Padding.{Pads}

-- bytes behind those that came still want more, and at most one more than those is wanted
abbrev pub Lacks : List ℕ → ℕ → Type 0
Lacks bytes wanted = (wanted ≡ 0) ⊎ ((pad : List ℕ) × WantsMore (bytes ++ pad) × (wanted ≤ length pad + 1))

-- what was seen is a front of what came, or that and what stands behind it
abbrev pub Stands : List ℕ → List ℕ → Padded → Type 0
Stands bytes seen now =
    ((bytes ≡ seen ++ now.rest.now) × (now.zeros ≡ 0) × (now.wanted ≡ 0))
    ⊎ ((pad : List ℕ) × (seen ≡ bytes ++ pad) × (now.rest.now ≡ []) × (now.zeros ≤ length pad) × Lacks bytes now.wanted)

both_nil : (xs ys : List ℕ) → xs ++ ys ≡ [] → (xs ≡ []) × (ys ≡ [])
both_nil [] ys e = (refl, e)
both_nil (x ∷ xs) ys e = absurd (cc)

one_more : (bytes seen given : List ℕ) (old new : Padded) → Stands bytes seen old → WantsMore seen → Pads old (Some given) new → Stands bytes (seen ++ given) new
one_more bytes seen given old new (inl s) wants (inl p) =
    inl (s.0 ∙ ap (λ (l : List ℕ). seen ++ l) p.0 ∙ sym (append_assoc seen given new.rest.now), p.1 ∙ s.1, p.2 ∙ s.2)
one_more bytes seen given old new (inl s) wants (inr p) =
    let all : bytes ≡ seen = s.0 ∙ ap (λ (l : List ℕ). seen ++ l) p.0 ∙ append-nil seen in
    let zeros : new.zeros ≤ length given = omega (arith, s.1, p.2) in
    let few : new.wanted ≤ 1 = omega (arith, s.1, p.3) in
    inr (given, ap (λ (l : List ℕ). l ++ given) (sym all), p.1, zeros, inr ([], subst WantsMore (sym all ∙ sym (append-nil bytes)) wants, few))
one_more bytes seen given old new (inr s) wants (inl p) =
    let none = both_nil given new.rest.now (sym p.0 ∙ s.2) in
    let same : seen ++ given ≡ bytes ++ s.0 = ap (λ (l : List ℕ). seen ++ l) none.0 ∙ append-nil seen ∙ s.1 in
    let zeros : new.zeros ≤ length s.0 = omega (arith, s.3, p.1) in
    inr (s.0, same, none.1, zeros, subst (Lacks bytes) (sym p.2) s.4)
one_more bytes seen given old new (inr s) wants (inr p) =
    let zeros : new.zeros ≤ length (s.0 ++ given) = omega (arith, s.3, p.2, length-append s.0 given) in
    let few : new.wanted ≤ length s.0 + 1 = omega (arith, s.3, p.3) in
    inr (s.0 ++ given, ap (λ (l : List ℕ). l ++ given) s.1 ∙ append_assoc bytes s.0 given, p.1, zeros, inr (s.0, subst WantsMore s.1 wants, few))

reads_stand : (bytes : List ℕ) (reads : List (Option (List ℕ))) (first now : Padded) → (bytes ≡ first.rest.now) × (first.zeros ≡ 0) × (first.wanted ≡ 0) → Reads Pads WantsMore reads first now → Stands bytes (seen_by reads) now
reads_stand bytes [] first now start e = subst (Stands bytes []) e (inl start)
reads_stand bytes (None ∷ earlier) first now start r = absurd r.4
reads_stand bytes (Some given ∷ earlier) first now start r = one_more bytes (seen_by earlier) given r.0 now (reads_stand bytes earlier first r.0 start r.1) r.3 r.4

lacked : (seen : List ℕ) (now : Padded) (bytes : List ℕ) → Stands bytes seen now → Lacks bytes now.wanted
lacked seen now bytes (inl s) = inl s.2
lacked seen now bytes (inr s) = s.4

abbrev number_in : Result ℕ HttpFault → ℕ
number_in (Ok n) = n
number_in (Err e) = 0

same_count : (a b : ℕ) (r : Result ℕ HttpFault) → r ≡ Ok a → r ≡ Ok b → a ≡ b
same_count a b r x y = ap number_in (sym x ∙ y)

is_wanted : (bytes : List ℕ) (wanted : ℕ) → Lacks bytes wanted → IsWanted bytes wanted
is_wanted bytes wanted (inl none) h rest n read is = omega (arith, none)
is_wanted bytes wanted (inr (pad, inl wants, few)) h rest n read is = absurd (wants.0.0 h (rest ++ pad) (ReadsRequest-append bytes h rest pad read.0))
is_wanted bytes wanted (inr (pad, inr cut, few)) h rest n read is =
    let same = request_prefix_free bytes pad h cut.0 rest cut.1 read.0 cut.3.0 in
    let count : n ≡ cut.2 = same_count n cut.2 (length_of h) is (ap length_of same.0 ∙ cut.4) in
    omega (arith, count, few, cut.5, ap length same.1, length-append rest pad)

pub wants : (bytes : List ℕ) (reads : List (Option (List ℕ))) (first now : Padded) → (bytes ≡ first.rest.now) × (first.zeros ≡ 0) × (first.wanted ≡ 0) → Reads Pads WantsMore reads first now → IsWanted bytes now.wanted
wants bytes reads first now start r = is_wanted bytes now.wanted (lacked (seen_by reads) now bytes (reads_stand bytes reads first now start r))

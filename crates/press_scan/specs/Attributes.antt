-- The list of attributes of an attribute text.
use Rattle.std.specs.Prelude.{◌≡◌, ℕ, ◌+◌, List, [], ◌∷◌, ◌++◌, Bool, false, cond, ◌==◌, Option, Some, None, position}
use Rattle.std.specs.List.{slice_set}
use Rattle.std.specs.Prelude.{◌≤◌}
use Rattle.std.specs.Str.{IsCharBoundary, bytes_eq, str_to_ascii_lowercase}
use Rattle.press_scan.specs.Shortcodes.{cut}
use Rattle.press_scan.specs.Tokens.{AreTokens}
use Rattle.press_scan.specs.declared.span.Span.{Span}
use Rattle.press_scan.specs.declared.token.Token.{Token}
use Rattle.press_scan.specs.declared.att.Att.{Att}
use Rattle.press_scan.specs.declared.att_key.AttKey.{AttKey}
use Rattle.press_scan.specs.declared.att_key.AttKey.TheVariants.{Name, Place}

abbrev pub has_name : AttKey → List ℕ → Bool
has_name (Name n) name = bytes_eq n name
has_name (Place k) name = false

abbrev pub has_place : AttKey → ℕ → Bool
has_place (Name n) place = false
has_place (Place k) place = k == place

abbrev pub is_key : AttKey → AttKey → Bool
is_key known (Name n) = has_name known n
is_key known (Place k) = has_place known k

-- the value of the attribute of that key
abbrev pub value_of : AttKey → List Att → Option (List ℕ)
value_of key [] = None
value_of key (a ∷ rest) = cond (is_key a.key key) (Some a.value) (value_of key rest)

-- the attribute at the place that it has, or last
abbrev pub put_at : List Att → Option ℕ → Att → List Att
put_at atts (Some i) att = slice_set atts i att
put_at atts None att = atts ++ att ∷ []

-- A name that exists keeps its place and takes the value; another goes last.
abbrev pub with_name : List Att → List ℕ → List ℕ → List Att
with_name atts name value = put_at atts (position (λ a. has_name a.key name) atts) (record { key = Name name; value = value })

-- the attributes found so far, and the number of the next nameless one
pub record AttsSoFar : Type 0 where
  pub atts : List Att
  pub next : ℕ

-- One token more: a name in lower case; a nameless value with its number; nothing of an empty nameless one.
abbrev pub add_token : AttsSoFar → Option (List ℕ) → List ℕ → AttsSoFar
add_token found (Some name) value = record found { atts = with_name found.atts (str_to_ascii_lowercase name) value }
add_token found None [] = found
add_token found None (b ∷ bs) = record { atts = found.atts ++ record { key = Place found.next; value = b ∷ bs } ∷ []; next = found.next + 1 }

-- the name of a token, as bytes
abbrev pub name_of : List ℕ → Option Span → Option (List ℕ)
name_of text (Some name) = Some (cut text name)
name_of text None = None

abbrev pub add_tokens : List ℕ → AttsSoFar → List Token → AttsSoFar
add_tokens text found [] = found
add_tokens text found (t ∷ ts) = add_tokens text (add_token found (name_of text t.name) (cut text t.value)) ts

-- the attributes of a text
abbrev pub IsAttributes : List ℕ → List Att → Type 0
IsAttributes text atts = (ts : List Token) × AreTokens text 0 ts × (atts ≡ (add_tokens text (record { atts = []; next = 0 }) ts).atts)

-- one token more, as fields
abbrev pub Gathers : List Att → ℕ → List Att → ℕ → List ℕ → Token → Type 0
Gathers atts next atts' next' text t = let f : AttsSoFar = add_token (record { atts = atts; next = next }) (name_of text t.name) (cut text t.value) in (atts' ≡ f.atts) × (next' ≡ f.next)

-- the parts of a token are cut between characters
pub record IsCutAt (text : List ℕ) (t : Token) : Type 0 where
  pub order : t.value.start ≤ t.value.end
  pub value_start : IsCharBoundary text t.value.start
  pub value_end : IsCharBoundary text t.value.end
  pub name : (n : Span) → t.name ≡ Some n → (n.start ≤ n.end) × IsCharBoundary text n.start × IsCharBoundary text n.end

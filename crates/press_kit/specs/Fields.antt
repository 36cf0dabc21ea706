-- What an object has at its keys (RFC 8259, 4), or the place that is bad. Of a repeated key the last counts, as the kit's `serde_json` reads it.
use Rattle.std.specs.Prelude.{ℕ, ◌+◌, ◌^◌, ℤ, pos, List, [], ◌∷◌, Bool, false, bytes_eq, if◌then◌else◌, length, nat_le, nat_lt, option_and_then, option_map, Option, Some, None, Result, Ok, Err, codes}
use Rattle.std.specs.List.{list_any, list_all}
use Rattle.serde_json.specs.Data.{Data, Items, no_items, item, Members, no_members, member}
use Rattle.serde_json.specs.Find.{get, as_str, as_number, as_u64, as_i64, as_array, as_object}
use Rattle.press_text.specs.Names.{is_name}
use Rattle.press_kit.specs.declared.place.Place.{Place}
use Rattle.press_kit.specs.Places.{item_of}

infixl 10 ◌>>=◌
abbrev pub ◌>>=◌ : {A B : Type 0} → Result A Place → (A → Result B Place) → Result B Place
(Ok x) >>= f = f x
(Err place) >>= f = Err place

abbrev pub or_bad : {A : Type 0} → Place → Option A → Result A Place
or_bad at None = Err at
or_bad at (Some x) = Ok x

-- what is made of one field
abbrev pub map_ok : {A B : Type 0} → (A → B) → Result A Place → Result B Place
map_ok make field = do
  x ← field
  Ok (make x)

-- ---- keys

abbrev pub keys_in : Members → List (List ℕ)
keys_in no_members = []
keys_in (member k d ms) = k ∷ keys_in ms

abbrev pub is_one_of : List (List ℕ) → List ℕ → Bool
is_one_of keys key = list_any (bytes_eq key) keys

-- an object whose keys are all among these
abbrev pub has_only_where : List (List ℕ) → Option Members → Bool
has_only_where keys None = false
has_only_where keys (Some ms) = list_all (is_one_of keys) (keys_in ms)

abbrev pub has_only : List (List ℕ) → Data → Bool
has_only keys d = has_only_where keys (as_object d)

abbrev pub only : Place → List (List ℕ) → Data → Result Data Place
only at keys d = if has_only keys d then Ok d else Err at

-- ---- fields

abbrev pub text_at : Place → List ℕ → Data → Result (List ℕ) Place
text_at at key d = or_bad at (option_and_then as_str (get key d))

abbrev pub name_in : ℕ → List ℕ → Option (List ℕ)
name_in most bytes = if is_name most bytes then Some bytes else None

-- a name of at most so many bytes
abbrev pub name_at : ℕ → Place → List ℕ → Data → Result (List ℕ) Place
name_at most at key d = or_bad at (option_and_then (name_in most) (option_and_then as_str (get key d)))

abbrev pub number_in : Data → Option ℕ
number_in d = option_and_then as_u64 (as_number d)

-- a whole number below 2^64
abbrev pub number_at : Place → List ℕ → Data → Result ℕ Place
number_at at key d = or_bad at (option_and_then number_in (get key d))

abbrev pub signed_in : Data → Option ℤ
signed_in d = option_and_then as_i64 (as_number d)

-- below a bound
abbrev pub below : ℕ → ℕ → Option ℕ
below bound n = if nat_lt n bound then Some n else None

-- where the key is missing it is this one
abbrev pub default : {A : Type 0} → A → (Data → Option A) → Option Data → Option A
default x read None = Some x
default x read (Some d) = read d

-- WordPress's priority where none is given
abbrev pub priority_at : Place → Data → Result ℤ Place
priority_at at d = or_bad at (default (pos 10) signed_in (get (codes "priority") d))

-- WordPress's count of accepted arguments where none is given
abbrev pub accepted_at : Place → Data → Result ℕ Place
accepted_at at d = or_bad at (default 1 (λ n. option_and_then (below (2 ^ 32)) (number_in n)) (get (codes "accepted") d))

-- ---- lists

abbrev pub list_of : Items → List Data
list_of no_items = []
list_of (item d ds) = d ∷ list_of ds

abbrev pub list_in : Data → Option (List Data)
list_in d = option_map list_of (as_array d)

abbrev pub few : ℕ → List Data → Option (List Data)
few most ds = if nat_le (length ds) most then Some ds else None

-- a list of at most so many items
abbrev pub few_in : ℕ → Data → Option (List Data)
few_in most d = option_and_then (few most) (list_in d)

abbrev pub list_at : Place → List ℕ → Data → Result (List Data) Place
list_at at key d = or_bad at (option_and_then list_in (get key d))

-- each item of a list in turn, the first at this number; the first that is bad gives its place
unfoldable pub each : {A : Type 0} → (Place → Data → Result A Place) → Place → ℕ → List Data → Result (List A) Place
each read at n [] = Ok []
each read at n (d ∷ ds) = do
  first ← read (item_of at n) d
  others ← each read at (n + 1) ds
  Ok (first ∷ others)

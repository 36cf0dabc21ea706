-- What is past some room with a piece of it is past it whole.
use Rattle.std.proofs.Common.{◌≡◌, refl, ap, ℕ, ◌+◌, ◌-◌, ◌<◌, ◌≤◌, List, length, map, take, get_or, leb, Bool, true, false, Option, Some, None, cond, arith}
use Rattle.std.specs.List.{flat_map, list_all}
use Rattle.std.proofs.lemmas.Bool.{leb-false, lt-leb}
use Rattle.std.proofs.lemmas.List.Folds.{length-flat_map-take, list_all-map}
use Rattle.press_text.specs.Escapes.{escaped_byte, escaped_text}
use Rattle.press_callbacks.specs.Sizes.{left_of}
use Rattle.press_callbacks.specs.Turns.{part_text, text_of}
use Rattle.press_callbacks.specs.declared.script.CallIn.{CallIn}
use Rattle.press_callbacks.specs.declared.script.Part.{Part}

nothing_where : (b : Bool) (n : ℕ) → cond b (Some n) None ≡ None → b ≡ false
nothing_where true n e = cc
nothing_where false n e = refl

-- nothing is left where there is more than the room
more_than : (room n : ℕ) → left_of room n ≡ None → room < n
more_than room n e = leb-false n room (nothing_where (leb n room) (room - n) e)

pub nothing_left : (room n : ℕ) → room < n → left_of room n ≡ None
nothing_left room n more = ap (λ b. cond b (Some (room - n)) None) (lt-leb n room more)

past : {X : Type 0} (f : X → List ℕ) (xs : List X) (i : ℕ) (d x : X) (left room : ℕ) → i < length xs → get_or xs i d ≡ x
    → left + length (flat_map f (take i xs)) ≡ room → left < length (f x) → room < length (flat_map f xs)
past f xs i d x left room below is rest more = omega (arith, length-flat_map-take f xs i d below, ap (λ y. length (f y)) is, rest, more)

-- of parts
pub past_parts : (call : CallIn) (parts : List Part) (i : ℕ) (p : Part) (left room : ℕ) → i < length parts → get_or parts i p ≡ p
    → left + length (text_of call (take i parts)) ≡ room → left_of left (length (part_text call p)) ≡ None → leb (length (text_of call parts)) room ≡ false
past_parts call parts i p left room below is rest nothing =
    lt-leb (length (text_of call parts)) room (past (part_text call) parts i p p left room below is rest (more_than left (length (part_text call p)) nothing))

-- of bytes to escape
pub past_bytes : (bytes : List ℕ) (i b : ℕ) (left room : ℕ) → i < length bytes → get_or bytes i 0 ≡ b
    → left + length (escaped_text (take i bytes)) ≡ room → left < length (escaped_byte b) → left_of room (length (escaped_text bytes)) ≡ None
past_bytes bytes i b left room below is rest more = nothing_left room (length (escaped_text bytes)) (past escaped_byte bytes i 0 b left room below is rest more)

-- all texts of a list of parts
pub texts_within : (call : CallIn) (all : List (List Part)) (most : ℕ) → list_all (λ t. leb (length t) most) (map (text_of call) all) ≡ list_all (λ parts. leb (length (text_of call parts)) most) all
texts_within call all most = list_all-map (λ t. leb (length t) most) (text_of call) all

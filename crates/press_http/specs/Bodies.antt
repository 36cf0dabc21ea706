-- Body: how many bytes of body a request has, by its target, its method and its fields (RFC 9112, 6; RFC 9110, 5.1 and 8.6), in this order:
-- a target of another form than a path (RFC 9112, 3.2), a transfer coding, and for POST alone the length. The most bytes are own.
use Rattle.std.specs.Prelude.{◌≡◌, ℕ, ◌+◌, ◌<◌, ◌==◌, ◌&&◌, Bool, true, false, List, [], ◌∷◌, length, map, nat_lt, nat_le, bytes_eq, Option, Result, Ok, Err, codes, if◌then◌else◌}
use Rattle.std.specs.Io.KnownBytes.{IsAtEnd}
use Rattle.std.specs.List.{list_all, before_first}
use Rattle.std.specs.Char.{is_ascii_digit, to_ascii_lowercase}
use Rattle.std.specs.Str.Parse.{digits_value}
use Rattle.httparse.specs.Grammar.{RequestHead}
use Rattle.httparse.specs.Spans.{name_and_value}
use Rattle.press_http.specs.declared.fault.HttpFault.{HttpFault}
use Rattle.press_http.specs.declared.fault.HttpFault.TheVariants as fault
use Rattle.press_http.specs.declared.fault.HttpFault.TheVariants.{BadHead, NoLength, TooBig, NotDone}
use Rattle.press_http.specs.declared.fields.Values.{Values}
use Rattle.press_http.specs.declared.fields.Values.TheVariants as values

-- of a form, and of all else but a message from another node
abbrev pub longest_form : ℕ
longest_form = 65536

-- of a message from another node, which may have 16 votes
abbrev pub longest_body : ℕ
longest_body = 524288

-- the most bytes of a body, by the path of the target
unfoldable pub most_body : List ℕ → ℕ
most_body target = if bytes_eq (before_first (λ b. b == 63) target) (codes "/peer") then longest_body else longest_form

-- the names of fields are the same in either case
abbrev pub is_named : List ℕ → List ℕ → Bool
is_named name other = bytes_eq (map to_ascii_lowercase other) (map to_ascii_lowercase name)

-- the values of the fields of that name, in order
abbrev pub values_of : List ℕ → List (List ℕ × List ℕ) → List (List ℕ)
values_of name [] = []
values_of name (field ∷ fields) = if is_named name field.0 then field.1 ∷ values_of name fields else values_of name fields

-- one digit or more, and nothing else
abbrev pub are_digits : List ℕ → Bool
are_digits value = nat_lt 0 (length value) && list_all is_ascii_digit value

abbrev pub length_in : ℕ → List ℕ → Result ℕ HttpFault
length_in most value =
    if are_digits value then (if nat_le (digits_value 10 value) most then Ok (digits_value 10 value) else Err TooBig) else Err BadHead

abbrev pub length_by : ℕ → List (List ℕ) → Result ℕ HttpFault
length_by most [] = Err NoLength
length_by most (value ∷ []) = length_in most value
length_by most (value ∷ other ∷ more) = Err BadHead

abbrev pub starts_with_slash : List ℕ → Bool
starts_with_slash [] = false
starts_with_slash (b ∷ bytes) = b == 47

abbrev pub is_empty : {A : Type 0} → List A → Bool
is_empty [] = true
is_empty (x ∷ xs) = false

abbrev pub length_for : ℕ → List ℕ → List (List ℕ × List ℕ) → Result ℕ HttpFault
length_for most method fields = if bytes_eq method (codes "POST") then length_by most (values_of (codes "Content-Length") fields) else Ok 0

-- of a request that has to have a body, whatever its target
abbrev pub posted_length : ℕ → List (List ℕ × List ℕ) → Result ℕ HttpFault
posted_length most fields = if is_empty (values_of (codes "Transfer-Encoding") fields) then length_by most (values_of (codes "Content-Length") fields) else Err NotDone

unfoldable pub body_length : List ℕ → List ℕ → List (List ℕ × List ℕ) → Result ℕ HttpFault
body_length method target fields =
    if starts_with_slash target
    then (if is_empty (values_of (codes "Transfer-Encoding") fields) then length_for (most_body target) method fields else Err NotDone)
    else Err BadHead

-- that of a head
abbrev pub length_of : RequestHead → Result ℕ HttpFault
length_of h = body_length h.method h.target (map name_and_value h.fields)

-- ---- the values that were found

abbrev pub AreValues : Values → List (List ℕ) → Type 0
AreValues values.Nothing vs = vs ≡ []
AreValues (values.One v) vs = vs ≡ v.now ∷ []
AreValues values.More vs = (v : List ℕ) × (w : List ℕ) × (more : List (List ℕ)) × (vs ≡ v ∷ w ∷ more)

-- those found so far
abbrev pub found_list : Values → List (List ℕ)
found_list values.Nothing = []
found_list (values.One v) = v.now ∷ []
found_list values.More = []

-- ---- reading a body

-- why so many bytes are not there, of those after the head and those that were read, and whether that was all
abbrev pub RefusesBody : HttpFault → ℕ → List ℕ → List ℕ → Option (List ℕ) → Type 0
RefusesBody fault.NoMemory n rest more left = Unit {0}
RefusesBody fault.ReadFault n rest more left = length rest + length more < n
RefusesBody fault.Ended n rest more left = (length rest + length more < n) × IsAtEnd left
RefusesBody fault.WriteFault n rest more left = ⊥
RefusesBody fault.BadHead n rest more left = ⊥
RefusesBody fault.BadForm n rest more left = ⊥
RefusesBody fault.BadPeer n rest more left = ⊥
RefusesBody fault.NotFound n rest more left = ⊥
RefusesBody fault.NotAllowed n rest more left = ⊥
RefusesBody fault.NoLength n rest more left = ⊥
RefusesBody fault.TooBig n rest more left = ⊥
RefusesBody fault.FieldsTooLarge n rest more left = ⊥
RefusesBody fault.NotDone n rest more left = ⊥

-- more bytes are wanted than were after the head and were read
abbrev pub WantsBody : ℕ → List ℕ → List ℕ → Type 0
WantsBody n rest more = length rest + length more < n

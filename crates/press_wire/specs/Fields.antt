-- Fields are read off the front of bytes, one after another; the first that fails gives the fault (own).
use Rattle.std.specs.Prelude.{ℕ, List, [], ◌∷◌, length, take, drop, nat_lt, Option, Some, None, Result, Ok, Err, if◌then◌else◌}
use Rattle.std.specs.Int.{Width, w32, w64, byte_len, from_be_bytes}
use Rattle.std.specs.Str.{is_utf8}
use Rattle.press_text.specs.Moments.{moment_of}
use Rattle.press_text.specs.Names.{is_name}
use Rattle.press_posts.specs.declared.status.Status.{Status}
use Rattle.press_wire.specs.declared.ballot.Ballot.{Ballot}
use Rattle.press_wire.specs.declared.fault.WireFault.{WireFault}
use Rattle.press_wire.specs.declared.fault.WireFault.TheVariants.{Short, BadField}
use Rattle.press_wire.specs.Kinds.{status_of}
use Rattle.press_wire.specs.Ranges.{only, is_within, is_at_most, member_id_of, slot_of, round_of}

-- what is read off the front, and the bytes behind it
abbrev pub Reading : Type 0 → Type 0
Reading A = List ℕ → Result (A × List ℕ) WireFault

infixl 10 ◌>>=◌
abbrev pub ◌>>=◌ : {A B : Type 0} → Result A WireFault → (A → Result B WireFault) → Result B WireFault
(Ok x) >>= next = next x
(Err fault) >>= next = Err fault

-- ---- bytes

abbrev pub byte_at : Reading ℕ
byte_at [] = Err Short
byte_at (b ∷ rest) = Ok (b, rest)

abbrev pub bytes_at : ℕ → Reading (List ℕ)
bytes_at n bytes = if nat_lt (length bytes) n then Err Short else Ok (take n bytes, drop n bytes)

abbrev pub number_at : Width → Reading ℕ
number_at w bytes = if nat_lt (length bytes) (byte_len w) then Err Short else Ok (from_be_bytes w (take (byte_len w) bytes), drop (byte_len w) bytes)

-- ---- fields that have to be one of some, and those that a length goes before

abbrev pub or_fault : {A : Type 0} → WireFault → Option A → List ℕ → Result (A × List ℕ) WireFault
or_fault fault None rest = Err fault
or_fault fault (Some x) rest = Ok (x, rest)

abbrev pub checked_at : {A B : Type 0} → WireFault → (A → Option B) → Reading A → Reading B
checked_at fault of at bytes = at bytes >>= λ x. or_fault fault (of x.0) x.1

abbrev pub counted_bytes_at : Reading ℕ → Reading (List ℕ)
counted_bytes_at at bytes = at bytes >>= λ n. bytes_at n.0 n.1

-- ---- the fields of values and messages

unfoldable pub number4_at : Reading ℕ
number4_at bytes = number_at w32 bytes

unfoldable pub number8_at : Reading ℕ
number8_at bytes = number_at w64 bytes

-- a length, and that many bytes of a name
unfoldable pub short_at : Reading (List ℕ)
short_at bytes = counted_bytes_at (checked_at BadField (only (is_within 1 32)) byte_at) bytes

unfoldable pub name_at : Reading (List ℕ)
name_at bytes = checked_at BadField (only (is_name 32)) short_at bytes

unfoldable pub text_at : Reading (List ℕ)
text_at bytes = checked_at BadField (only is_utf8) (counted_bytes_at (checked_at BadField (only (is_at_most 65536)) number4_at)) bytes

unfoldable pub moment_at : Reading ℕ
moment_at bytes = checked_at BadField moment_of number8_at bytes

unfoldable pub status_at : Reading Status
status_at bytes = checked_at BadField status_of byte_at bytes

unfoldable pub node_at : Reading ℕ
node_at bytes = checked_at BadField member_id_of byte_at bytes

unfoldable pub slot_at : Reading ℕ
slot_at bytes = checked_at BadField slot_of number4_at bytes

unfoldable pub round_at : Reading ℕ
round_at bytes = checked_at BadField round_of number8_at bytes

unfoldable pub ballot_at : Reading Ballot
ballot_at bytes = do
  round ← round_at bytes
  node ← node_at round.1
  Ok (record { round = round.0; node = node.0 }, node.1)

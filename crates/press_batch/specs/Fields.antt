-- Fields are read off the front of bytes, one after another; the first that fails gives the fault (own).
use Rattle.std.specs.Prelude.{ℕ, ◌==◌, true, false, List, [], ◌∷◌, length, take, drop, nat_lt, Bool, Option, Some, None, Result, Ok, Err, if◌then◌else◌}
use Rattle.std.specs.Int.{Width, w32, w64, byte_len, from_be_bytes}
use Rattle.press_wire.specs.Ranges.{only, member_id_of}
use Rattle.press_batch.specs.declared.fault.BatchFault.{BatchFault}
use Rattle.press_batch.specs.declared.fault.BatchFault.TheVariants.{Short, BadVersion, BadMember, BadRecall}
use Rattle.press_batch.specs.Spelling.{version}

-- what is read off the front, and the bytes behind it
abbrev pub Reading : Type 0 → Type 0
Reading A = List ℕ → Result (A × List ℕ) BatchFault

infixl 10 ◌>>=◌
abbrev pub ◌>>=◌ : {A B : Type 0} → Result A BatchFault → (A → Result B BatchFault) → Result B BatchFault
(Ok x) >>= next = next x
(Err fault) >>= next = Err fault

-- ---- bytes

abbrev pub byte_at : Reading ℕ
byte_at [] = Err Short
byte_at (b ∷ rest) = Ok (b, rest)

abbrev pub bytes_at : ℕ → Reading (List ℕ)
bytes_at n bytes = if nat_lt (length bytes) n then Err Short else Ok (take n bytes, drop n bytes)

abbrev pub number_at : Width → Reading ℕ
number_at w bytes = if nat_lt (length bytes) (byte_len w) then Err Short else Ok (from_be_bytes w (take (byte_len w) bytes), drop (byte_len w) bytes)

-- ---- fields

abbrev pub or_fault : {A : Type 0} → BatchFault → Option A → List ℕ → Result (A × List ℕ) BatchFault
or_fault fault None rest = Err fault
or_fault fault (Some x) rest = Ok (x, rest)

unfoldable pub number4_at : Reading ℕ
number4_at bytes = number_at w32 bytes

unfoldable pub number8_at : Reading ℕ
number8_at bytes = number_at w64 bytes

abbrev pub is_version : ℕ → Bool
is_version n = n == version

unfoldable pub version_at : Reading ℕ
version_at bytes = byte_at bytes >>= λ n. or_fault BadVersion (only is_version n.0) n.1

unfoldable pub member_at : Reading ℕ
member_at bytes = byte_at bytes >>= λ n. or_fault BadMember (member_id_of n.0) n.1

-- a byte that says whether there is something: 1 that there is, 0 that there isn't
abbrev pub flag_of : ℕ → Option Bool
flag_of n = if n == 0 then Some false else (if n == 1 then Some true else None)

unfoldable pub flag_at : Reading Bool
flag_at bytes = byte_at bytes >>= λ n. or_fault BadRecall (flag_of n.0) n.1

unfoldable pub digest_at : Reading (List ℕ)
digest_at bytes = bytes_at 32 bytes

-- bytes behind their length in four bytes
unfoldable pub piece_at : Reading (List ℕ)
piece_at bytes = number4_at bytes >>= λ n. bytes_at n.0 n.1

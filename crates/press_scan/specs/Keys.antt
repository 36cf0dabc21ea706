-- Keys of attributes as keys of a map: equal ones are the same, and are hashed alike.
use Rattle.std.specs.Prelude.{◌≡◌, ℕ, Bool, true, false, List, ◌++◌, IsTrue}
use Rattle.std.specs.Bool.{Decides}
use Rattle.std.specs.Cmp.{IsEquivalence, decided, unsigned_Decides}
use Rattle.std.specs.Cmp.Lexicographic.{bytes_decides}
use Rattle.std.specs.Hash as fed
use Rattle.std.proofs.Common.{ap, sym, true≢false}
use Rattle.press_scan.specs.Attributes.{is_key}
use Rattle.press_scan.specs.declared.att_key.AttKey.{AttKey}
use Rattle.press_scan.specs.declared.att_key.AttKey.TheVariants.{Name, Place}

-- what a key gives to a hasher
abbrev pub writes : AttKey → fed.HashWrites
writes (Name n) = fed.u8 0 ++ fed.str n
writes (Place k) = fed.u8 1 ++ fed.u32 k

abbrev is_named : AttKey → Bool
is_named (Name n) = true
is_named (Place k) = false

abbrev name_of : AttKey → List ℕ → List ℕ
name_of (Name n) other = n
name_of (Place k) other = other

abbrev place_of : AttKey → ℕ → ℕ
place_of (Name n) other = other
place_of (Place k) other = k

pub key_decides : (a b : AttKey) → Decides (is_key a b) (a ≡ b)
key_decides (Name n) (Name m) = (λ e. ap (λ x. Name x) ((bytes_decides n m).0 e), λ e. (bytes_decides n m).1 (ap (λ a. name_of a n) e))
key_decides (Name n) (Place k) = (λ e. absurd (true≢false (sym e)), λ e. absurd (true≢false (ap is_named e)))
key_decides (Place j) (Name n) = (λ e. absurd (true≢false (sym e)), λ e. absurd (true≢false (sym (ap is_named e))))
key_decides (Place j) (Place k) = (λ e. ap (λ x. Place x) ((unsigned_Decides j k).0 e), λ e. (unsigned_Decides j k).1 (ap (λ a. place_of a j) e))

pub key_equiv : IsEquivalence is_key
key_equiv = decided is_key key_decides

pub writes_alike : (a b : AttKey) → IsTrue (is_key a b) → writes a ≡ writes b
writes_alike a b e = ap writes ((key_decides a b).0 e)

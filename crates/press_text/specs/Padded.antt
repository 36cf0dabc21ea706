-- A callback's name in place: its bytes, and zeros up to 32.
use Rattle.std.specs.Prelude.{◌≡◌, ◌<◌, ℕ, ◌+◌, ◌*◌, List, [], ◌∷◌, ◌++◌, length, take, drop, replicate, slice_index}
use Rattle.std.specs.List.{AllByRecursion}
use Rattle.press_text.specs.Names.{IsName}

abbrev pub padded_name : List ℕ → List ℕ
padded_name name = name ++ drop (length name) (replicate 32 0)

-- so many of these bytes are a name, and the others are zeros
pub record IsKept (bytes : List ℕ) (len : ℕ) : Type 0 where
  pub name : IsName 32 (take len bytes)
  pub padded : padded_name (take len bytes) ≡ bytes
  pub long : length (take len bytes) ≡ len

abbrev pub AreBytes : List ℕ → Type 0
AreBytes bytes = AllByRecursion (λ b. b < 256) bytes

-- the eight bytes from a place on
abbrev pub eight : ℕ → List ℕ → List ℕ
eight at xs =
    slice_index xs at ∷ slice_index xs (at + 1) ∷ slice_index xs (at + 2) ∷ slice_index xs (at + 3) ∷ slice_index xs (at + 4)
    ∷ slice_index xs (at + 5) ∷ slice_index xs (at + 6) ∷ slice_index xs (at + 7) ∷ []

-- the number that bytes spell behind n, the greatest first
abbrev pub number : ℕ → List ℕ → ℕ
number n [] = n
number n (b ∷ bs) = number (n * 256 + b) bs

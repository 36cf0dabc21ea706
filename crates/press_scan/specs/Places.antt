-- Words on the places of a text. A text is its bytes; a place past its end holds 0.
use Rattle.std.specs.Prelude.{◌≡◌, ℕ, ◌<◌, ◌≤◌, List, false, slice_index}
use Rattle.press_text.specs.Names.{is_name_byte}

-- the byte b is at the place p
abbrev pub At : List ℕ → ℕ → ℕ → Type 0
At text b p = slice_index text p ≡ b

-- a byte that no name has is at p, or p is past the end
abbrev pub AtNoName : List ℕ → ℕ → Type 0
AtNoName text p = is_name_byte (slice_index text p) ≡ false

-- P holds of no place from `from` up to `to`
abbrev pub NoneBetween : (ℕ → Type 0) → ℕ → ℕ → Type 0
NoneBetween P from to = (k : ℕ) → from ≤ k → k < to → P k → ⊥

-- P holds of no place at or after `from`
abbrev pub NoneFrom : (ℕ → Type 0) → ℕ → Type 0
NoneFrom P from = (k : ℕ) → from ≤ k → P k → ⊥

-- p is the first place at or after `from` of which P holds: there is none earlier
pub record IsFirst (P : ℕ → Type 0) (from p : ℕ) : Type 0 where
  pub after : from ≤ p
  pub holds : P p
  pub none_before : NoneBetween P from p

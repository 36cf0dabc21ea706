-- Loops that look for the first place.
use Rattle.std.proofs.Common.{◌≡◌, ℕ, ◌+◌, ◌<◌, List, length, get_or, arith, inl, inr, subst}
use Rattle.std.proofs.lemmas.Bool.{cases_lt}
use Rattle.std.proofs.lemmas.List.{get_or_past}
use Rattle.press_scan.specs.Places.{At, NoneBetween, NoneFrom}

pub none_more : (P : ℕ → Type 0) (from i : ℕ) → NoneBetween P from i → (P i → ⊥) → NoneBetween P from (i + 1)
none_more P from i before here k a b p = elim (cases_lt k i) [
  | inl lt ↦ before k a lt p
  | inr ge ↦ (let e : k ≡ i = omega arith in here (subst P e p))
]

pub none_yet : (P : ℕ → Type 0) (from : ℕ) → NoneBetween P from from
none_yet P from k a b p = absurd (omega arith)

-- what wants Q holds of no place up to the first where Q holds
pub none_to : (P Q : ℕ → Type 0) (from at to : ℕ) → ((k : ℕ) → P k → Q k) → NoneBetween P from at → NoneBetween Q at to → NoneBetween P from to
none_to P Q from at to wants before none k a b p = elim (cases_lt k at) [
  | inl early ↦ before k a early p
  | inr late ↦ none k late b (wants k p)
]

pub none_ahead : (P Q : ℕ → Type 0) (from at : ℕ) → ((k : ℕ) → P k → Q k) → NoneBetween P from at → NoneFrom Q at → NoneFrom P from
none_ahead P Q from at wants before none k a p = elim (cases_lt k at) [
  | inl early ↦ before k a early p
  | inr late ↦ none k late (wants k p)
]

-- what holds of no place of the text holds of no place at all
pub none_at_all : (P : ℕ → Type 0) (from n : ℕ) → ((k : ℕ) → P k → k < n) → NoneBetween P from n → NoneFrom P from
none_at_all P from n within before k a p = before k a (within k p) p

-- a byte that isn't 0 is in the text
pub at_within : (text : List ℕ) (b k : ℕ) → 0 < b → At text b k → k < length text
at_within text b k some h = elim (cases_lt k (length text)) [
  | inl lt ↦ lt
  | inr ge ↦ (let z : get_or text k 0 ≡ 0 = get_or_past text k 0 ge in absurd (omega arith))
]

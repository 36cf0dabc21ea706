-- What a search for a place finds.
use Rattle.std.proofs.Common.{◌≡◌, ◌⊎◌, ℕ, zero, suc, ◌+◌, ◌<◌, ◌≤◌, Bool, true, false, arith, inl, inr, subst, sym, refl, Option, Some, None}
use Rattle.std.specs.Prelude.{MatchOption}
use Rattle.std.specs.Bool.{Decides}
use Rattle.std.proofs.lemmas.Bool.{cases_lt, both_ways}
use Rattle.press_scan.specs.Places.{IsFirst, NoneBetween, NoneFrom}
use Rattle.press_scan.specs.Seeking.{first_from, first_place}
use Rattle.press_scan.proofs.Firsts.{none_yet}

pub record Seeks (test : ℕ → Bool) (from n p : ℕ) : Type 0 where
  pub after : from ≤ p
  pub before : NoneBetween (λ k. test k ≡ true) from p
  pub found : (test p ≡ true) ⊎ (p ≡ from + n)

later : (test : ℕ → Bool) (from p : ℕ) → test from ≡ false → NoneBetween (λ k. test k ≡ true) (from + 1) p → NoneBetween (λ k. test k ≡ true) from p
later test from p e rest k a b h = elim (cases_lt from k) [
  | inl lt ↦ rest k (omega arith) b h
  | inr ge ↦ (let same : k ≡ from = omega arith in absurd (both_ways (test from) e (subst (λ z. test z ≡ true) same h)))
]

still : (test : ℕ → Bool) (from n p : ℕ) → (test p ≡ true) ⊎ (p ≡ from + 1 + n) → (test p ≡ true) ⊎ (p ≡ from + suc n)
still test from n p (inl t) = inl t
still test from n p (inr e) = (let same : p ≡ from + suc n = omega arith in inr same)

seeks_step : (test : ℕ → Bool) (from n : ℕ) (b : Bool) → test from ≡ b → Seeks test (from + 1) n (first_from test (from + 1) n) → Seeks test from (suc n) (elim b [ true ↦ from | false ↦ first_from test (from + 1) n ])
seeks_step test from n true e rest = record { after = omega arith; before = none_yet (λ k. test k ≡ true) from; found = inl e }
seeks_step test from n false e rest = record { after = omega (arith, rest.after); before = later test from (first_from test (from + 1) n) e rest.before; found = still test from n (first_from test (from + 1) n) rest.found }

pub seeks : (test : ℕ → Bool) (from n : ℕ) → Seeks test from n (first_from test from n)
seeks test from zero = record { after = omega arith; before = none_yet (λ k. test k ≡ true) from; found = (let same : from ≡ from + 0 = omega arith in inr same) }
seeks test from (suc n) = seeks_step test from n (test from) refl (seeks test (from + 1) n)

abbrev pub Tells : (ℕ → Bool) → (ℕ → Type 0) → Type 0
Tells test P = (k : ℕ) → Decides (test k) (P k)

reaches : (test : ℕ → Bool) (P : ℕ → Type 0) (from n p : ℕ) → Tells test P → P (from + n) → (test p ≡ true) ⊎ (p ≡ from + n) → P p
reaches test P from n p tells last (inl t) = (tells p).0 t
reaches test P from n p tells last (inr e) = subst P (sym e) last

-- what holds of the last place holds of a first one
pub is_first : (test : ℕ → Bool) (P : ℕ → Type 0) (from n : ℕ) → Tells test P → P (from + n) → IsFirst P from (first_from test from n)
is_first test P from n tells last =
    let s : Seeks test from n (first_from test from n) = seeks test from n in
    record { after = s.after; holds = reaches test P from n (first_from test from n) tells last s.found; none_before = λ k a b h. s.before k a b ((tells k).1 h) }

none_past : (test : ℕ → Bool) (P : ℕ → Type 0) (from n p : ℕ) → Tells test P → ((k : ℕ) → P k → k < from + n) → test p ≡ false → Seeks test from n p → NoneFrom P from
none_past test P from n p tells within e s k a h = elim s.found [
  | inl t ↦ both_ways (test p) e t
  | inr last ↦ (let b : k < from + n = within k h in s.before k a (omega arith) ((tells k).1 h))
]

found_step : (test : ℕ → Bool) (P : ℕ → Type 0) (from n p : ℕ) (b : Bool) → test p ≡ b → Tells test P → ((k : ℕ) → P k → k < from + n) → Seeks test from n p → MatchOption (let o : Option ℕ = elim b [ true ↦ Some p | false ↦ None ] in o) (NoneFrom P from) (λ p. IsFirst P from p)
found_step test P from n p true e tells within s = record { after = s.after; holds = (tells p).0 e; none_before = λ k a b h. s.before k a b ((tells k).1 h) }
found_step test P from n p false e tells within s = none_past test P from n p tells within e s

-- what is sought is found, or is nowhere
pub is_sought : (test : ℕ → Bool) (P : ℕ → Type 0) (from n : ℕ) → Tells test P → ((k : ℕ) → P k → k < from + n) → MatchOption (first_place test from n) (NoneFrom P from) (λ p. IsFirst P from p)
is_sought test P from n tells within = found_step test P from n (first_from test from n) (test (first_from test from n)) refl tells within (seeks test from n)

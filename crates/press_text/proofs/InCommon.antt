-- Where more pass one of two tests than there are numbers, one passes both.
use Rattle.std.proofs.Common.{ℕ, zero, suc, ◌+◌, ◌<◌, ◌≤◌, ◌≡◌, Bool, true, false, cond, refl, arith}
use Rattle.std.proofs.lemmas.List.Sums.{sum_by-cons}
use Rattle.std.specs.List.{count_by, range_with_len}

-- a number from a on, of k numbers, that passes both tests
abbrev pub Both : (ℕ → Bool) → (ℕ → Bool) → ℕ → ℕ → Type 0
Both p q a k = (m : ℕ) × (a ≤ m) × (m < a + k) × (p m ≡ true) × (q m ≡ true)

-- one number more, where more pass than there are numbers
pick : (p q : ℕ → Bool) (a k P Q : ℕ) (x y : Bool) → p a ≡ x → q a ≡ y → suc k < (cond x 1 0 + P) + (cond y 1 0 + Q) → (k < P + Q → Both p q (a + 1) k) → Both p q a (suc k)
pick p q a k P Q true true e f h ih = (a, omega arith, omega arith, e, f)
pick p q a k P Q true false e f h ih = let r = ih (omega arith) in (r.0, omega arith, omega arith, r.3, r.4)
pick p q a k P Q false y e f h ih =
    let some : k < P + Q = one y h in
    let r = ih some in (r.0, omega arith, omega arith, r.3, r.4)
  where
    one : (y : Bool) → suc k < (cond false 1 0 + P) + (cond y 1 0 + Q) → k < P + Q
    one true h = omega arith
    one false h = omega arith

pub common : (p q : ℕ → Bool) (a k : ℕ) → k < count_by p (range_with_len a k) + count_by q (range_with_len a k) → Both p q a k
common p q a zero h = absurd (omega arith)
common p q a (suc k) h =
    let rest = range_with_len (a + 1) k in
    pick p q a k (count_by p rest) (count_by q rest) (p a) (q a) refl refl
    (omega (arith, sum_by-cons (λ m. cond (p m) 1 0) a rest, sum_by-cons (λ m. cond (q m) 1 0) a rest))
    (common p q (a + 1) k)

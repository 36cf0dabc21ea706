-- Two texts are compared piece by piece.
use Rattle.std.proofs.Common.{◌≡◌, refl, sym, not, ◌∙◌, ap, ℕ, zero, suc, ◌≤◌, List, [], ◌∷◌, ◌++◌, length, take, drop, Bool, true, false, ◌&&◌, bytes_eq, nat_eq, arith}
use Rattle.std.proofs.lemmas.Bool.{and_parts}

-- where fronts of one length are the same, what is behind them decides
pub behind_fronts : (n : ℕ) (p q r s : List ℕ) → n ≤ length p → n ≤ length q → bytes_eq (take n p) (take n q) ≡ true → bytes_eq (p ++ r) (q ++ s) ≡ bytes_eq (drop n p ++ r) (drop n q ++ s)
behind_fronts zero p q r s a b e = refl
behind_fronts (suc n) [] q r s a b e = absurd (omega (arith, a))
behind_fronts (suc n) (x ∷ p) [] r s a b e = absurd (omega (arith, b))
behind_fronts (suc n) (x ∷ p) (y ∷ q) r s a b e =
    let d = and_parts (nat_eq x y) (bytes_eq (take n p) (take n q)) e in
    ap (λ t. t && bytes_eq (p ++ r) (q ++ s)) d.0 ∙ behind_fronts n p q r s (omega (arith, a)) (omega (arith, b)) d.1

one_differs : (b c d : Bool) → (b && c) ≡ false → (c ≡ false → d ≡ false) → (b && d) ≡ false
one_differs true c d e h = h e
one_differs false c d e h = refl

-- where they aren't, the texts aren't either
pub fronts_differ : (n : ℕ) (p q r s : List ℕ) → n ≤ length p → n ≤ length q → bytes_eq (take n p) (take n q) ≡ false → bytes_eq (p ++ r) (q ++ s) ≡ false
fronts_differ zero p q r s a b e = cc
fronts_differ (suc n) [] q r s a b e = absurd (omega (arith, a))
fronts_differ (suc n) (x ∷ p) [] r s a b e = absurd (omega (arith, b))
fronts_differ (suc n) (x ∷ p) (y ∷ q) r s a b e =
    one_differs (nat_eq x y) (bytes_eq (take n p) (take n q)) (bytes_eq (p ++ r) (q ++ s)) e (fronts_differ n p q r s (omega (arith, a)) (omega (arith, b)))

pub not_true : (b : Bool) → not b ≡ true → b ≡ false
not_true true e = sym e
not_true false e = refl

pub not_false : (b : Bool) → not b ≡ false → b ≡ true
not_false true e = refl
not_false false e = sym e

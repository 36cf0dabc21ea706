-- What stands before the first byte that passes.
use Rattle.std.proofs.Common.{ℕ, zero, suc, ◌≤◌, ◌≡◌, Bool, true, false, cond, nat_lt, List, [], ◌∷◌, length, take, None, Some, refl, sym, ap, arith}
use Rattle.std.proofs.lemmas.Bool.{ltb-false}
use Rattle.std.specs.List.{before_first, position, position_or_len}

some_at : (b : Bool) (i j : ℕ) → cond b (Some i) None ≡ Some j → i ≡ j
some_at true i j e = cc
some_at false i j e = cc

none_at : (b : Bool) (i : ℕ) → cond b (Some i) None ≡ None → b ≡ false
none_at true i e = cc
none_at false i e = refl

take_all : (n : ℕ) (xs : List ℕ) → length xs ≤ n → xs ≡ take n xs
take_all n xs le = sym (all n xs le)
  where
    all : (n : ℕ) (xs : List ℕ) → length xs ≤ n → take n xs ≡ xs
    all zero [] le = refl
    all (suc n) [] le = refl
    all zero (x ∷ xs) le = absurd (omega (arith, le))
    all (suc n) (x ∷ xs) le = ap (λ ys. x ∷ ys) (all n xs (omega (arith, le)))

pub cut_at : (p : ℕ → Bool) (xs : List ℕ) (i : ℕ) → position p xs ≡ Some i → take i xs ≡ before_first p xs
cut_at p xs i e = ap (λ n. take n xs) (sym (some_at (nat_lt (position_or_len p xs) (length xs)) (position_or_len p xs) i e))

pub uncut : (p : ℕ → Bool) (xs : List ℕ) → position p xs ≡ None → xs ≡ before_first p xs
uncut p xs e = take_all (position_or_len p xs) xs (ltb-false (position_or_len p xs) (length xs) (none_at (nat_lt (position_or_len p xs) (length xs)) (position_or_len p xs) e))

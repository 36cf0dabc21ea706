-- A list whose elements change in turn.
use Rattle.std.proofs.Common.{◌≡◌, refl, ap, ℕ, zero, suc, ◌+◌, ◌<◌, List, [], ◌∷◌, ◌++◌, map, length, get_or, set, take, drop, arith}

-- one more element replaced by f of it
pub mapped_more : {A : Type 0} (f : A → A) (xs : List A) (i : ℕ) (d : A) → i < length xs → set (map f (take i xs) ++ drop i xs) i (f (get_or (map f (take i xs) ++ drop i xs) i d)) ≡ map f (take (i + 1) xs) ++ drop (i + 1) xs
mapped_more f [] i d h = absurd (omega arith)
mapped_more f (y ∷ ys) zero d h = refl
mapped_more f (y ∷ ys) (suc i) d h =
    let k : suc i + 1 ≡ suc (i + 1) = omega arith in
    let lt : i < length ys = omega arith in
    rw k (ap (λ zs. f y ∷ zs) (mapped_more f ys i d lt))

pub mapped_step : {A : Type 0} (f : A → A) (xs ys : List A) (i : ℕ) (d y : A) → ys ≡ map f (take i xs) ++ drop i xs → i < length xs → y ≡ f (get_or ys i d) → set ys i y ≡ map f (take (i + 1) xs) ++ drop (i + 1) xs
mapped_step f xs ys i d y e h new = rw (new, e) (mapped_more f xs i d h)

-- what is still to be changed is as it was
pub untouched : {A : Type 0} (f : A → A) (xs : List A) (i : ℕ) (d : A) → i < length xs → get_or (map f (take i xs) ++ drop i xs) i d ≡ get_or xs i d
untouched f [] i d h = absurd (omega arith)
untouched f (y ∷ ys) zero d h = refl
untouched f (y ∷ ys) (suc i) d h =
    let lt : i < length ys = omega arith in
    untouched f ys i d lt

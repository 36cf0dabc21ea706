-- A list that a test parts in two: its front is what passes.
use Rattle.std.proofs.Common.{◌≡◌, refl, sym, ◌∙◌, ap, ℕ, zero, suc, Bool, true, false, cond, List, [], ◌∷◌, filter, length, take, arith}
use Rattle.std.specs.List.{AllWithin}

pub front_kept : {X : Type 0} (p : X → Bool) (xs : List X) (i : ℕ) → AllWithin (λ y. p y ≡ true) xs 0 i → AllWithin (λ y. p y ≡ false) xs i (length xs) → take i xs ≡ filter p xs
front_kept p [] zero low high = refl
front_kept p [] (suc i) low high = refl
front_kept p (x ∷ xs) zero low high =
    let at : p x ≡ false = high 0 x (omega arith) (omega arith) in
    let rest : take 0 xs ≡ filter p xs = front_kept p xs 0 (λ k d a b. absurd (omega arith)) (λ k d a b. high (suc k) d (omega arith) (omega arith)) in
    rest ∙ ap (λ c. cond c (x ∷ filter p xs) (filter p xs)) (sym at)
front_kept p (x ∷ xs) (suc i) low high =
    let at : p x ≡ true = low 0 x (omega arith) (omega arith) in
    let rest : take i xs ≡ filter p xs = front_kept p xs i (λ k d a b. low (suc k) d (omega arith) (omega arith)) (λ k d a b. high (suc k) d (omega arith) (omega arith)) in
    ap (λ zs. x ∷ zs) rest ∙ ap (λ c. cond c (x ∷ filter p xs) (filter p xs)) (sym at)

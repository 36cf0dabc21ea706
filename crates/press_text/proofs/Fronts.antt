-- A front of bytes that are written in two runs.
use Rattle.std.proofs.Common.{◌≡◌, ◌<◌, ℕ, zero, suc, ◌+◌, arith, length-append, List, [], ◌∷◌, ◌++◌, length, take, refl, ap}
use Rattle.std.proofs.Math.Seq.{take-append-add}
use Rattle.std.specs.Prelude.{Option}
use Rattle.std.specs.Io.KnownBytes.{Appends}
use Rattle.press_text.specs.Streams.{AppendsFront, AppendsProperFront}
use Rattle.press_text.proofs.Taken.{Appends-trans}

short : (n : ℕ) (xs ys : List ℕ) → (m : ℕ) × (take n xs ≡ take m (xs ++ ys))
short zero xs ys = (0, refl)
short (suc n) [] ys = (0, refl)
short (suc n) (x ∷ xs) ys = let r = short n xs ys in (suc r.0, ap (λ (l : List ℕ). x ∷ l) r.1)

pub in_first : (a b : Option (List ℕ)) (xs ys : List ℕ) → AppendsFront a b xs → AppendsFront a b (xs ++ ys)
in_first a b xs ys p = let r = short p.0 xs ys in (r.0, rw r.1 at p.1)

pub in_second : (a b c : Option (List ℕ)) (xs ys : List ℕ) → Appends a b xs → AppendsFront b c ys → AppendsFront a c (xs ++ ys)
in_second a b c xs ys p q = (length xs + q.0, rw (take-append-add xs ys q.0) (Appends-trans a b c xs (take q.0 ys) p q.1))

within : (n : ℕ) (xs ys : List ℕ) → n < length xs → take n xs ≡ take n (xs ++ ys)
within zero xs ys lt = refl
within (suc n) [] ys lt = absurd (omega (arith, lt))
within (suc n) (x ∷ xs) ys lt = ap (λ (l : List ℕ). x ∷ l) (within n xs ys (omega (arith, lt)))

pub left_in_first : (a b : Option (List ℕ)) (xs ys : List ℕ) → AppendsProperFront a b xs → AppendsProperFront a b (xs ++ ys)
left_in_first a b xs ys p = (p.0, omega (arith, p.1, length-append xs ys), rw (within p.0 xs ys p.1) at p.2)

pub left_in_second : (a b c : Option (List ℕ)) (xs ys : List ℕ) → Appends a b xs → AppendsProperFront b c ys → AppendsProperFront a c (xs ++ ys)
left_in_second a b c xs ys p q = (length xs + q.0, omega (arith, q.1, length-append xs ys), rw (take-append-add xs ys q.0) (Appends-trans a b c xs (take q.0 ys) p q.2))

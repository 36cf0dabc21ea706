-- What is kept of a reply that comes in pieces.
use Rattle.std.proofs.Common.{◌≡◌, ℕ, zero, suc, ◌-◌, List, [], ◌∷◌, ◌++◌, drop, length, take, true, refl, sym, ap, ◌∙◌, append-nil, arith}
use Rattle.std.proofs.Math.Seq.{take-nil}
use Rattle.std.proofs.lemmas.List.{append_assoc, length-append, take-append-drop}
use Rattle.std.specs.Cmp.Lexicographic.{bytes_decides}
use Rattle.std.specs.Str.{bytes_eq}
use Rattle.press_http.specs.StatusLine.{front_length}
use Rattle.press_loop.specs.Carrying.{with_more}

take_both : (k : ℕ) (xs ys : List ℕ) → take k (xs ++ ys) ≡ take k xs ++ take (k - length (take k xs)) ys
take_both zero xs ys = refl
take_both (suc k) [] ys =
    let e : suc k - 0 ≡ suc k = omega arith in
    ap (λ n. take n ys) (sym e)
take_both (suc k) (x ∷ xs) ys =
    let e : suc k - length (x ∷ take k xs) ≡ k - length (take k xs) = omega arith in
    rw e (ap (λ (zs : List ℕ). x ∷ zs) (take_both k xs ys))

-- nothing more leaves what there is
pub more_of_nothing : (front : List ℕ) → front ≡ with_more front []
more_of_nothing front = sym (ap (λ (xs : List ℕ). front ++ xs) (take-nil (front_length - length front)) ∙ append-nil front)

-- and two pieces are one
pub more_of_both : (front xs ys : List ℕ) → with_more (with_more front xs) ys ≡ with_more front (xs ++ ys)
more_of_both front xs ys =
    let k = front_length - length front in
    let e : front_length - length (front ++ take k xs) ≡ k - length (take k xs) = omega (arith, length-append front (take k xs)) in
    append_assoc front (take k xs) (take (front_length - length (front ++ take k xs)) ys)
    ∙ ap (λ n. front ++ (take k xs ++ take n ys)) e
    ∙ ap (λ (zs : List ℕ). front ++ zs) (sym (take_both k xs ys))

-- bytes that some others begin with, and the rest of those
pub whole_again : (came written : List ℕ) → bytes_eq (take (length came) written) came ≡ true → came ++ drop (length came) written ≡ written
whole_again came written same =
    ap (λ (xs : List ℕ). xs ++ drop (length came) written) (sym ((bytes_decides (take (length came) written) came).0 same))
    ∙ take-append-drop (length came) written

pub still_whole : (heard bytes left rest written : List ℕ) → heard ++ left ≡ written → bytes ++ rest ≡ left → (heard ++ bytes) ++ rest ≡ written
still_whole heard bytes left rest written all more =
    append_assoc heard bytes rest ∙ ap (λ (xs : List ℕ). heard ++ xs) more ∙ all

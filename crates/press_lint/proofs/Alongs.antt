-- What is told along a list, as a loop tells it.
use Rattle.std.proofs.Common.{◌≡◌, ◌∙◌, ℕ, ◌+◌, ◌<◌, ◌≤◌, List, ◌∷◌, ◌++◌, length, get_or, drop, refl, sym, ap, append_assoc, append-nil, add-one, drop-cons}
use Rattle.std.proofs.Math.ListN.{drop_of_length-le}
use Rattle.press_lint.specs.Slips.{along}

module _ {A : Type 0} (tells : ℕ → A → List A → List ℕ) (xs : List A) where
  -- the message from a place on
  abbrev pub rest : ℕ → List ℕ
  rest i = along tells i (drop i xs)

  pub goes_on : (told more total : List ℕ) (i : ℕ) (x : A) → i < length xs → x ≡ get_or xs i x → more ≡ tells i x (drop (i + 1) xs)
      → told ++ rest i ≡ total → (told ++ more) ++ rest (i + 1) ≡ total
  goes_on told more total i x lt here is so_far =
      let cut : drop i xs ≡ x ∷ drop (i + 1) xs = rw (add-one, drop-cons xs i x lt, ← here) refl in
      let one : rest i ≡ more ++ rest (i + 1) = rw (cut, is) refl in
      append_assoc told more (rest (i + 1)) ∙ sym (ap (λ (ys : List ℕ). told ++ ys) one) ∙ so_far

  pub is_done : (told total : List ℕ) (i : ℕ) → length xs ≤ i → told ++ rest i ≡ total → told ≡ total
  is_done told total i le so_far =
      let none : told ++ rest i ≡ told = rw (drop_of_length-le xs le) (append-nil told) in
      sym none ∙ so_far

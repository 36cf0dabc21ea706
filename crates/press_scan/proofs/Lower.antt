-- A text without upper case letters is its own lower case.
use Rattle.std.proofs.Common.{◌≡◌, ap, ◌∙◌, refl, ℕ, Bool, true, false, true≢false, ◌||◌, List, [], ◌∷◌, arith}
use Rattle.std.proofs.lemmas.Bool.Decides.{nat_tests}
use Rattle.std.specs.List.{list_any}
use Rattle.std.specs.Char.{is_ascii_uppercase, to_ascii_lowercase}
use Rattle.std.specs.Str.{str_to_ascii_lowercase}

one_lower : (c : ℕ) → is_ascii_uppercase c ≡ false → to_ascii_lowercase c ≡ c
one_lower c e = grind (arith, nat_tests)

neither : (a b : Bool) → (a || b) ≡ false → (a ≡ false) × (b ≡ false)
neither true b e = absurd (true≢false e)
neither false b e = (refl, e)

pub lower_already : (bs : List ℕ) → list_any is_ascii_uppercase bs ≡ false → str_to_ascii_lowercase bs ≡ bs
lower_already [] e = refl
lower_already (b ∷ bs) e =
    let parts = neither (is_ascii_uppercase b) (list_any is_ascii_uppercase bs) e in
    ap (λ c. c ∷ str_to_ascii_lowercase bs) (one_lower b parts.0) ∙ ap (λ (cs : List ℕ). b ∷ cs) (lower_already bs parts.1)

-- What a set of hooks has, as a loop puts them in.
use Rattle.std.proofs.Common.{◌≡◌, refl, sym, ◌∙◌, ap, ℕ, ◌+◌, ◌<◌, Bool, true, false, List, length, get_or, take}
use Rattle.std.specs.Prelude.{◌||◌}
use Rattle.std.specs.List.{list_any}
use Rattle.std.proofs.lemmas.List.Folds.{list_any_more}

turned : (a b c : Bool) → (a || (b || c)) ≡ (b || a || c)
turned true true c = refl
turned true false c = refl
turned false true c = refl
turned false false c = refl

-- one more item of a list
pub gathered : {A : Type 0} (p : A → Bool) (xs : List A) (i : ℕ) (x : A) (first old new : Bool) → i < length xs → x ≡ get_or xs i x
    → old ≡ (list_any p (take i xs) || first) → new ≡ (p x || old) → new ≡ (list_any p (take (i + 1) xs) || first)
gathered p xs i x first old new lt here before after =
    let step : (list_any p (take i xs) || p x) ≡ list_any p (take (i + 1) xs) = ap (λ y. list_any p (take i xs) || p y) here ∙ sym (list_any_more p xs i x lt) in
    after ∙ ap (λ b. p x || b) before ∙ turned (p x) (list_any p (take i xs)) first ∙ ap (λ b. b || first) step

pub grouped : (a b c : Bool) → (a || (b || c)) ≡ (a || b || c)
grouped true b c = refl
grouped false true c = refl
grouped false false c = refl

-- nothing was there before
pub alone : (a b : Bool) → (a || (b || false)) ≡ (a || b)
alone a true = refl
alone true false = refl
alone false false = refl

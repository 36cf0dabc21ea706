-- Lists of texts, in place or shared.
use Rattle.std.specs.Prelude.{ℕ, List, [], ◌∷◌}
use Rattle.press_text.specs.declared.texts.Inside.{Inside}
use Rattle.press_text.specs.declared.texts.Inside.TheVariants.{None, One, Shared}

abbrev pub texts_in : Inside → List (List ℕ)
texts_in None = []
texts_in (One t) = t ∷ []
texts_in (Shared rc) = rc.value.items

-- the list with another first value
abbrev pub with_first : {X : Type 0} → X → List X → List X
with_first x [] = x ∷ []
with_first x (y ∷ ys) = x ∷ ys

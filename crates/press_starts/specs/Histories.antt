-- What a member's file goes through (own): starts begin under names of their own, saves are made, and the start that runs is told with its saves. The newest stands first.
use Rattle.std.specs.Prelude.{ℕ, ◌+◌, List, [], ◌∷◌, ◌++◌, take}
use Rattle.press_starts.specs.declared.mark.Mark.{Mark}

pub data Deed : Type 0 where
  begins : (name : ℕ) → Deed
  saves : Deed
  tells : Deed

-- one save more of the start that runs
abbrev pub with_save : List Mark → List Mark
with_save [] = []
with_save (mark ∷ earlier) = record mark { saves = mark.saves + 1 } ∷ earlier

-- what the file has then
abbrev pub file_after : List Deed → List Mark
file_after [] = []
file_after (begins name ∷ deeds) = record { start = name; saves = 0 } ∷ file_after deeds
file_after (saves ∷ deeds) = with_save (file_after deeds)
file_after (tells ∷ deeds) = file_after deeds

-- the marks that were told
abbrev pub told_in : List Deed → List Mark
told_in [] = []
told_in (begins name ∷ deeds) = told_in deeds
told_in (saves ∷ deeds) = told_in deeds
told_in (tells ∷ deeds) = take 1 (file_after deeds) ++ told_in deeds

-- Marks that a file has.
use Rattle.std.proofs.Common.{◌≡◌, true, false, List, [], ◌∷◌, Some, arith}
use Rattle.std.proofs.lemmas.Grind.{common_steps}
use Rattle.press_starts.specs.Files.{has_made, lacks}
use Rattle.press_starts.specs.Histories.{with_save}
use Rattle.press_starts.specs.declared.mark.Mark.{Mark}

-- what is not lacked is there
pub made_where_told : (file : List Mark) (mark : Mark) → lacks file (Some mark) ≡ false → has_made file mark ≡ true
made_where_told file mark told = grind (arith, told)

-- a save takes nothing away
pub made_after_save : (file : List Mark) (mark : Mark) → has_made file mark ≡ true → has_made (with_save file) mark ≡ true
made_after_save [] mark made = made
made_after_save (first ∷ earlier) mark made = grind (arith, common_steps, made)

-- the start that runs is there
pub made_itself : (first : Mark) (earlier : List Mark) → has_made (first ∷ earlier) first ≡ true
made_itself first earlier = grind (arith, common_steps)

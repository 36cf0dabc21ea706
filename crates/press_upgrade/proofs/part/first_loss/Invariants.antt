use Rattle.std.proofs.Common.{take}
use Rattle.press_upgrade.specs.Parts.{AreKept}
use Rattle.press_upgrade.proofs.part.first_loss.Given as goal

abbrev pub invariant-loop-n : goal.invariant-loop-n
invariant-loop-n g l = AreKept g.T.Part.title l.among (take l.n l.parts)

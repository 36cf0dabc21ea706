use Rattle.std.proofs.Common.{◌≡◌, drop}
use Rattle.press_upgrade.specs.Parts.{part_of}
use Rattle.press_upgrade.proofs.part.find.Given as goal

abbrev pub invariant-loop-n : goal.invariant-loop-n
invariant-loop-n g l = part_of g.T.Part.title l.title (drop l.n l.parts) ≡ part_of g.T.Part.title l.title l.parts

use Rattle.std.proofs.Common.{rules, refl}
use Rattle.press_cluster.specs.Going.GoIn.{none_goes, one_goes}
use Rattle.press_cluster.proofs.lanes.Lane.move_said.Goals as goal

pub loop-init : goal.loop-init
loop-init c = ((refl, refl, refl), refl, none_goes _ _)

pub loop-preserved : goal.loop-preserved
loop-preserved c = (search rules, search rules, one_goes _ _ _ _ _ _ c.loop.invariant.2 (search rules))

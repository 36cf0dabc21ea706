use Rattle.press_kit.specs.KitFile.{kit_in}
use Rattle.press_kit.proofs.Kits.{view_where}
use Rattle.press_node_cases.proofs.schedules.play_at.Goals as goal

pub restart-requires-clause-alike : goal.restart-requires-clause-alike
restart-requires-clause-alike c = (view_where (kit_in c.args.kit.now), c.loop-i.invariant.alike)

pub transcript-requires-clause-alike : goal.transcript-requires-clause-alike
transcript-requires-clause-alike c = (view_where (kit_in c.args.kit.now), c.loop-i.invariant.alike)

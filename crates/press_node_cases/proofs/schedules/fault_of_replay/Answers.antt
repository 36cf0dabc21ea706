use Rattle.std.proofs.Common.{[]}
use Rattle.press_callbacks.specs.Kits.{view_of}
use Rattle.press_node_cases.proofs.schedules.fault_of_replay.Goals as goal

pub replay-requires-clause-alike : goal.replay-requires-clause-alike
replay-requires-clause-alike g c = (view_of [] [], c.loop.invariant.alike)

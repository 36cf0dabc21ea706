use Rattle.std.proofs.Common.{[]}
use Rattle.press_callbacks.specs.Kits.{view_of}
use Rattle.press.proofs.tests.connections.plays.Goals as goal

pub loop_over-requires-clause-alike : goal.loop_over-requires-clause-alike
loop_over-requires-clause-alike c = (view_of [] [], c.loop.invariant.alike)

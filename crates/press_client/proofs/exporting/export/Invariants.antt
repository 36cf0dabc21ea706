use Rattle.std.proofs.Common.{◌≤◌}
use Rattle.press_client.proofs.Exports.{IsOnTheWay}
use Rattle.press_client.specs.Exporting.{writing_of}
use Rattle.press_client.proofs.exporting.export.Given as goal

abbrev pub invariant-loop-left : goal.invariant-loop-left
invariant-loop-left g l =
    IsOnTheWay g.T.Teller.tells l.fn.limits l.files.limits l.applied l.left l.fn.teller l.teller (writing_of l.files) × (l.left ≤ l.applied)

abbrev pub decreases-loop-left : goal.decreases-loop-left
decreases-loop-left g l = l.left

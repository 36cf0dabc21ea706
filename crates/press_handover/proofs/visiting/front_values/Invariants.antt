use Rattle.std.proofs.Common.{◌≡◌, ◌++◌, drop}
use Rattle.press_handover.specs.Voted.{front_values}
use Rattle.press_handover.proofs.visiting.front_values.Given as goal

abbrev pub invariant-loop-it : goal.invariant-loop-it
invariant-loop-it l = l.values.items ++ front_values l.next (drop l.it-index l.votes) ≡ front_values l.fn.first l.votes

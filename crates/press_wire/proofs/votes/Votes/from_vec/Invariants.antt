use Rattle.std.proofs.Common.{◌≡◌}
use Rattle.std.specs.Vec.Iter.{into_iter_items}
use Rattle.press_wire.specs.Votes.{of_pairs}
use Rattle.press_wire.proofs.Pairs.{behind}
use Rattle.press_wire.proofs.votes.Votes.from_vec.Given as goal

abbrev pub invariant-loop-number : goal.invariant-loop-number
invariant-loop-number l = behind l.votes (of_pairs (into_iter_items l.number-iterator)) ≡ of_pairs l.fn.pairs.items

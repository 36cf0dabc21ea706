use Rattle.std.proofs.Common.{◌≡◌, ◌++◌}
use Rattle.std.specs.Vec.Iter.{into_iter_items}
use Rattle.press_wire.specs.Votes.{pairs_of}
use Rattle.press_wire.proofs.votes.Votes.into_vec.Given as goal

abbrev pub invariant-loop-vote : goal.invariant-loop-vote
invariant-loop-vote l = l.pairs.items ++ pairs_of (into_iter_items l.vote-iterator) ≡ pairs_of l.fn.self

use Rattle.std.proofs.Common.{◌≡◌, None}
use Rattle.std.specs.Prelude.{replicate}
use Rattle.press_learner.proofs.ring.empty_ring.Given as goal

abbrev pub invariant-loop : goal.invariant-loop
invariant-loop l = l.ring.items ≡ replicate l.counter None

use Rattle.std.proofs.Common.{◌≡◌}
use Rattle.press_learner.specs.InRing.{without_slot_votes}
use Rattle.press_learner.proofs.ring.empty_slot.Given as goal

abbrev pub invariant-loop-i : goal.invariant-loop-i
invariant-loop-i l = l.ring.items ≡ without_slot_votes l.i l.slot l.initial.ring.items

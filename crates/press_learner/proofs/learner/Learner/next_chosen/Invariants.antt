use Rattle.press_learner.specs.Kept.{next_slot}
use Rattle.press_learner.proofs.Turns.{FirstFrom}
use Rattle.press_learner.proofs.learner.Learner.next_chosen.Given as goal

abbrev pub invariant-loop-i : goal.invariant-loop-i
invariant-loop-i l = FirstFrom l.self (next_slot l.self) l.i

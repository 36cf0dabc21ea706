use Rattle.press_client.specs.Course.{GoesOn, course_of}
use Rattle.press_client.proofs.delivery.Delivery.run.Given as goal

abbrev pub invariant-loop-turn : goal.invariant-loop-turn
invariant-loop-turn g l = GoesOn (g.N.Newsroom.said l.initial.room) (g.N.Newsroom.said l.room) (course_of l.initial.self) (course_of l.self)

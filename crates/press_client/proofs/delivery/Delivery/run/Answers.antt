use Rattle.press_client.proofs.Standing.{going_on}
use Rattle.press_client.specs.Course.{course_of}
use Rattle.press_client.proofs.delivery.Delivery.run.Goals as goal

pub loop-turn-preserved : goal.loop-turn-preserved
loop-turn-preserved g c =
    going_on (g.N.Newsroom.said c.args.room.now) (g.N.Newsroom.said c.loop-turn.room) (g.N.Newsroom.said c.step.new.room) (course_of c.args.self.now) (course_of c.loop-turn.self) (course_of c.step.new.self)
    c.loop-turn.invariant c.in_ok-goes_on.ensures

pub returns-then-not-goes_on : goal.returns-then-not-goes_on
returns-then-not-goes_on g c =
    going_on (g.N.Newsroom.said c.args.room.now) (g.N.Newsroom.said c.loop-turn.room) (g.N.Newsroom.said c.step.new.room) (course_of c.args.self.now) (course_of c.loop-turn.self) (course_of c.step.new.self)
    c.loop-turn.invariant c.in_ok-goes_on.ensures

use Rattle.press_client.proofs.Standing.{asking}
use Rattle.press_client.specs.Course.{course_of}
use Rattle.press_client.proofs.delivery.Delivery.ask.Goals as goal

pub returns : goal.returns
returns g c =
    asking c.in_ok-told.told c.in-Some.oldest.now (g.N.Newsroom.said c.args.room.now) (g.N.Newsroom.said c.outcome.new.self) (g.N.Newsroom.said c.follow-2.new.room) (course_of c.args.self.now) (course_of c.hear.new.self)
    c.in-Some.ensures c.in_ok-told.ensures.asks c.in_ok-next.ensures.course c.follow-2.ensures

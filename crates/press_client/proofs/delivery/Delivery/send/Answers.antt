use Rattle.press_client.proofs.Standing.{sending}
use Rattle.press_client.specs.Course.{course_of}
use Rattle.press_client.proofs.delivery.Delivery.send.Goals as goal

pub returns : goal.returns
returns g c =
    sending c.in_ok-taken.taken c.args.command.now (g.N.Newsroom.said c.args.room.now) (g.N.Newsroom.said c.submit.new.self) (g.N.Newsroom.said c.follow.new.room) (course_of c.args.self.now) (course_of c.take.new.self)
    c.requires c.in_ok-taken.ensures.sends c.in_ok-next.ensures.course c.follow.ensures

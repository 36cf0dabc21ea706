use Rattle.std.proofs.Common.{ap}
use Rattle.press_client.proofs.Standing.{delivered, few}
use Rattle.press_client.specs.Course.{course_of}
use Rattle.press_client.proofs.delivery.deliver.Goals as goal

pub returns-clause-count : goal.returns-clause-count
returns-clause-count g c =
    few (g.N.Newsroom.said c.args.room.now) (g.N.Newsroom.said c.run.new.room) c.args.commands.now c.args.members (course_of c.new-delivery.result) (course_of c.run.new.self) c.new-delivery.ensures c.in_ok-run.ensures
    c.into_endings.result.items (ap (λ v. v.items) c.into_endings.ensures)

pub returns-clause-delivers : goal.returns-clause-delivers
returns-clause-delivers g c =
    delivered (g.N.Newsroom.said c.args.room.now) (g.N.Newsroom.said c.run.new.room) c.args.commands.now c.args.members (course_of c.new-delivery.result) (course_of c.run.new.self) c.new-delivery.ensures c.in_ok-run.ensures
    c.into_endings.result.items (ap (λ v. v.items) c.into_endings.ensures)

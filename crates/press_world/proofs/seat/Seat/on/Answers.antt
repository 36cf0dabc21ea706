use Rattle.press_world.proofs.Acting.{ok_on, err_on, few_on}
use Rattle.press_world.proofs.seat.Seat.on.Goals as goal

pub returns-clause-few : goal.returns-clause-few
returns-clause-few g c =
    let old = c.args.self.now in
    few_on (λ out. out.items) old.store c.on.new.store old.state c.on.new.self c.args.event c.on.result (c.few_messages_go_out.ensures old.store old.state c.args.event c.applied.ensures.whole) c.on.ensures.plays

pub returns-clause-ok : goal.returns-clause-ok
returns-clause-ok g c =
    let old = c.args.self.now in
    ok_on (λ out. out.items) old.store c.on.new.store old.state c.on.new.self c.args.event c.on.result c.on.ensures.plays

pub returns-clause-err : goal.returns-clause-err
returns-clause-err g c =
    let old = c.args.self.now in
    err_on (λ out. out.items) old.store c.on.new.store old.state c.on.new.self c.args.event c.on.result c.on.ensures.plays

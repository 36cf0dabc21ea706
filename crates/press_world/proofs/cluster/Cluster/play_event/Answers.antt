use Rattle.std.proofs.Common.{◌++◌, ◌≡◌, length, ap, ◌∙◌, arith}
use Rattle.press_world.specs.Seen.{with_entry, proposal_entry}
use Rattle.press_world.specs.Seats.{stored_of}
use Rattle.press_world.proofs.Turned.{turn_done, turn_refused}
use Rattle.press_world.proofs.cluster.Cluster.play_event.Goals as goal

pub returns-in-Err-result-clause-err : goal.returns-in-Err-result-clause-err
returns-in-Err-result-clause-err g c =
    let seats = c.args.self.now.seats.items in
    turn_refused (length seats) (stored_of seats c.args.self.now.sent.items c.args.self.now.trace.items) (stored_of c.act-result.new.seats.items c.reserve-2.new.self.items c.write_down.new.trace.items)
    c.args.coming.message_index c.args.index c.args.coming.slot c.member_at-member.result c.args.coming.event c.args.cut c.in-Err-result.fault c.look_at-before.result c.look_at-after.result c.entry_between.result
    c.in-Err-result.ensures.err c.requires.about c.look_at-before.ensures c.look_at-after.ensures c.member_at-member.ensures c.entry_between.ensures
    (c.write_down.ensures.items ∙ ap (λ xs. with_entry xs c.entry_between.result) c.reserve.ensures.items) c.reserve-2.ensures.items

pub returns-in-Ok-result-clause-ok : goal.returns-in-Ok-result-clause-ok
returns-in-Ok-result-clause-ok g c =
    let seats = c.args.self.now.seats.items in
    let count : c.len.result ≡ length c.args.self.now.sent.items = omega (arith, c.len.ensures, c.reserve-2.ensures.len, ap length c.reserve-2.ensures.items) in
    turn_done (length seats) (stored_of seats c.args.self.now.sent.items c.args.self.now.trace.items) (stored_of c.act-result.new.seats.items c.send.new.sent.items c.write_down-in-Ok-result.new.trace.items)
    c.args.coming.message_index c.args.index c.args.coming.slot c.member_at-member.result c.args.coming.event c.args.cut c.in-Ok-result.out.items c.look_at-before.result c.look_at-after.result c.entry_between.result c.write_down.new.trace.items
    c.in-Ok-result.ensures.ok c.requires.about c.look_at-before.ensures c.look_at-after.ensures c.member_at-member.ensures c.entry_between.ensures
    (c.write_down.ensures.items ∙ ap (λ xs. with_entry xs c.entry_between.result) c.reserve.ensures.items)
    (c.write_down-in-Ok-result.ensures.items
    ∙ ap (with_entry c.write_down.new.trace.items) (c.proposal_entry.ensures ∙ ap (λ xs. proposal_entry xs c.len.result) c.deref.ensures.value ∙ ap (proposal_entry c.in-Ok-result.out.items) count))
    (c.send.ensures ∙ ap (λ xs. xs ++ c.in-Ok-result.out.items) c.reserve-2.ensures.items)

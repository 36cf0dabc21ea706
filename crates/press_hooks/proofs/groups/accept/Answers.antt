use Rattle.press_hooks.proofs.ByPriority.{accepted_found, accepted_missing, order_accepted}
use Rattle.press_hooks.proofs.groups.accept.Goals as goal

pub returns-in-Ok-clause-entries : goal.returns-in-Ok-clause-entries
returns-in-Ok-clause-entries c =
    let place = rw c.as_slice.ensures.value at c.in-Ok.ensures in
    accepted_found c.args.entry.now.priority c.args.entry.now.callback c.args.entry.now.accepted c.args.groups.now.items c.in-Ok.place c.index_mut.result.now c.accept.new.self c.requires place.0 place.1 c.index_mut.ensures.value c.accept.ensures

pub returns-in-Ok-clause-order : goal.returns-in-Ok-clause-order
returns-in-Ok-clause-order c =
    let place = rw c.as_slice.ensures.value at c.in-Ok.ensures in
    order_accepted c.args.entry.now.priority c.args.entry.now.callback c.args.entry.now.accepted c.args.groups.now.items c.in-Ok.place c.index_mut.result.now c.accept.new.self c.requires place.0 c.index_mut.ensures.value c.accept.ensures

pub returns-in_default-clause-entries : goal.returns-in_default-clause-entries
returns-in_default-clause-entries c =
    let place = rw c.as_slice.ensures.value at c.in_default.ensures in
    accepted_missing c.args.entry.now.priority c.args.entry.now.callback c.args.entry.now.accepted c.args.groups.now.items c.in_default.field-0 place.1

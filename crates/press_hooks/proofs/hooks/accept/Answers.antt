use Rattle.press_hooks.proofs.Named.{accepted_found, accepted_missing, order_set, others_set}
use Rattle.std.proofs.Common.{◌∙◌, ap}
use Rattle.press_hooks.proofs.hooks.accept.Goals as goal

pub returns-in-Ok-clause-rows : goal.returns-in-Ok-clause-rows
returns-in-Ok-clause-rows c =
    let place = rw c.as_slice.ensures.value at c.in-Ok.ensures in
    accepted_found c.args.name.now c.args.entry.now.priority c.args.entry.now.callback c.args.entry.now.accepted c.args.hooks.now.items c.in-Ok.place c.index_mut.result.now c.accept.new.self c.requires place.0 place.1 c.index_mut.ensures.value c.accept.ensures.name c.accept.ensures.entries

pub returns-in-Ok-clause-others : goal.returns-in-Ok-clause-others
returns-in-Ok-clause-others c =
    let place = rw c.as_slice.ensures.value at c.in-Ok.ensures in
    others_set c.args.name.now c.args.hooks.now.items c.in-Ok.place c.index_mut.result.now c.accept.new.self place.0 place.1 c.index_mut.ensures.value c.accept.ensures.name

pub returns-in-Ok-clause-order : goal.returns-in-Ok-clause-order
returns-in-Ok-clause-order c =
    let place = rw c.as_slice.ensures.value at c.in-Ok.ensures in
    order_set c.args.hooks.now.items c.in-Ok.place c.index_mut.result.now c.accept.new.self place.0 (c.accept.ensures.name ∙ ap (λ h. h.name) c.index_mut.ensures.value) c.requires

pub returns-in_default-clause-rows : goal.returns-in_default-clause-rows
returns-in_default-clause-rows c =
    let place = rw c.as_slice.ensures.value at c.in_default.ensures in
    accepted_missing c.args.name.now c.args.entry.now.priority c.args.entry.now.callback c.args.entry.now.accepted c.args.hooks.now.items c.in_default.field-0 place.1

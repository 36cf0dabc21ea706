use Rattle.std.proofs.Common.{refl, ◌∙◌, ap, sym, subst}
use Rattle.std.proofs.lemmas.Result.{on_ok_weaker}
use Rattle.press_hooks.specs.Hooked.{AreGroups, entries_of}
use Rattle.press_hooks.proofs.ByPriority.{group_put, order_put, new_put, order_new, has_found}
use Rattle.press_hooks.proofs.groups.put.Goals as goal

pub returns-in-Ok-clause-entries : goal.returns-in-Ok-clause-entries
returns-in-Ok-clause-entries c =
    let place = rw c.as_slice.ensures.value at c.in-Ok.ensures in
    on_ok_weaker c.put.result (λ h. group_put c.args.entry.now c.args.groups.now.items c.in-Ok.place c.index_mut.result.now c.put.new.self c.requires.order place.0 place.1 c.index_mut.ensures.value h) c.put.ensures.put

pub returns-in-Ok-clause-order : goal.returns-in-Ok-clause-order
returns-in-Ok-clause-order c =
    let place = rw c.as_slice.ensures.value at c.in-Ok.ensures in
    on_ok_weaker c.put.result (λ h. order_put c.args.entry.now c.args.groups.now.items c.in-Ok.place c.index_mut.result.now c.put.new.self c.requires.order place.0 c.index_mut.ensures.value h) c.put.ensures.put

pub returns-in_ok-with_entry-in-Err-clause-entries : goal.returns-in_ok-with_entry-in-Err-clause-entries
returns-in_ok-with_entry-in-Err-clause-entries c =
    let place = rw c.as_slice.ensures.value at c.in-Err.ensures in
    on_ok_weaker c.put_group.result (λ h. ap entries_of h ∙ new_put c.args.entry.now c.in_ok-with_entry-in-Err.field-0 c.args.groups.now.items c.in-Err.place c.in_ok-with_entry-in-Err.ensures place.0 place.1) c.put_group.ensures.put

pub returns-in_ok-with_entry-in-Err-clause-order : goal.returns-in_ok-with_entry-in-Err-clause-order
returns-in_ok-with_entry-in-Err-clause-order c =
    let place = rw c.as_slice.ensures.value at c.in-Err.ensures in
    on_ok_weaker c.put_group.result (λ h. subst AreGroups (sym h) (order_new c.args.entry.now c.in_ok-with_entry-in-Err.field-0 c.args.groups.now.items c.in-Err.place c.in_ok-with_entry-in-Err.ensures place.0 place.1 c.requires.order)) c.put_group.ensures.put

pub put-requires : goal.put-requires
put-requires c =
    let place = rw c.as_slice.ensures.value at c.in-Ok.ensures in
    has_found c.args.entry.now.priority c.args.entry.now.callback c.args.groups.now.items c.in-Ok.place c.index_mut.result.now c.requires.order place.0 place.1 c.index_mut.ensures.value refl ∙ c.requires.new

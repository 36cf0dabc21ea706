use Rattle.std.proofs.Common.{◌∙◌, ap, sym, subst}
use Rattle.std.proofs.lemmas.Result.{on_ok_weaker}
use Rattle.press_hooks.specs.Hooked.{KeepsOthers, IsByName, entries_of, has_entry, table_rows}
use Rattle.press_hooks.proofs.Named.{put_found, put_missing, order_missing, order_set, others_set, others_insert, found_named}
use Rattle.press_hooks.proofs.hooks.put.Goals as goal

pub returns-in-Ok-clause-rows : goal.returns-in-Ok-clause-rows
returns-in-Ok-clause-rows c =
    let place = rw c.as_slice.ensures.value at c.in-Ok.ensures in
    on_ok_weaker c.put.result (λ h. put_found c.args.name.now c.args.entry.now c.args.hooks.now.items c.in-Ok.place c.index_mut.result.now c.put.new.self c.requires.order place.0 place.1 c.index_mut.ensures.value c.put.ensures.name h) c.put.ensures.put

pub returns-in-Ok-clause-others : goal.returns-in-Ok-clause-others
returns-in-Ok-clause-others c =
    let place = rw c.as_slice.ensures.value at c.in-Ok.ensures in
    on_ok_weaker c.put.result (λ h. others_set c.args.name.now c.args.hooks.now.items c.in-Ok.place c.index_mut.result.now c.put.new.self place.0 place.1 c.index_mut.ensures.value c.put.ensures.name) c.put.ensures.put

pub returns-in-Ok-clause-order : goal.returns-in-Ok-clause-order
returns-in-Ok-clause-order c =
    let place = rw c.as_slice.ensures.value at c.in-Ok.ensures in
    on_ok_weaker c.put.result (λ h. order_set c.args.hooks.now.items c.in-Ok.place c.index_mut.result.now c.put.new.self place.0 (c.put.ensures.name ∙ ap (λ g. g.name) c.index_mut.ensures.value) c.requires.order) c.put.ensures.put

pub returns-in_ok-with_entry-in-Err-clause-rows : goal.returns-in_ok-with_entry-in-Err-clause-rows
returns-in_ok-with_entry-in-Err-clause-rows c =
    let place = rw c.as_slice.ensures.value at c.in-Err.ensures in
    on_ok_weaker c.put_hook.result (λ h. ap table_rows h ∙ put_missing c.args.name.now c.args.entry.now c.in_ok-with_entry-in-Err.field-0 c.args.hooks.now.items c.in-Err.place c.in_ok-with_entry-in-Err.ensures.name c.in_ok-with_entry-in-Err.ensures.entries place.0 place.1) c.put_hook.ensures.put

pub returns-in_ok-with_entry-in-Err-clause-others : goal.returns-in_ok-with_entry-in-Err-clause-others
returns-in_ok-with_entry-in-Err-clause-others c =
    on_ok_weaker c.put_hook.result (λ h. subst (KeepsOthers c.args.name.now c.args.hooks.now.items) (sym h) (others_insert c.args.name.now c.args.hooks.now.items c.in-Err.place c.in_ok-with_entry-in-Err.field-0 c.in_ok-with_entry-in-Err.ensures.name)) c.put_hook.ensures.put

pub returns-in_ok-with_entry-in-Err-clause-order : goal.returns-in_ok-with_entry-in-Err-clause-order
returns-in_ok-with_entry-in-Err-clause-order c =
    let place = rw c.as_slice.ensures.value at c.in-Err.ensures in
    on_ok_weaker c.put_hook.result (λ h. subst IsByName (sym h) (order_missing c.args.name.now c.in_ok-with_entry-in-Err.field-0 c.args.hooks.now.items c.in-Err.place c.in_ok-with_entry-in-Err.ensures.name place.0 place.1 c.requires.order)) c.put_hook.ensures.put

pub put-requires : goal.put-requires
put-requires c =
    let place = rw c.as_slice.ensures.value at c.in-Ok.ensures in
    ap (λ h. has_entry c.args.entry.now.priority c.args.entry.now.callback (entries_of h.groups)) c.index_mut.ensures.value
    ∙ (ap (λ gs. has_entry c.args.entry.now.priority c.args.entry.now.callback (entries_of gs)) (found_named c.args.name.now c.args.hooks.now.items c.in-Ok.place c.index_mut.result.now c.requires.order place.0 place.1)
    ∙ c.requires.new)

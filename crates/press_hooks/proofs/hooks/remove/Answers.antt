use Rattle.std.proofs.Common.{◌≡◌, ◌∙◌, ap, arith, length, set, Some, to_z, of_z, w64}
use Rattle.std.proofs.lemmas.Int.{to_z-of_z}
use Rattle.press_hooks.specs.Hooked.{hook_entries, table_rows}
use Rattle.press_hooks.proofs.Named.{removed_found, removed_missing, order_set, others_set, length_set}
use Rattle.press_hooks.proofs.hooks.remove.Goals as goal

pub returns-in_default-clause-rows : goal.returns-in_default-clause-rows
returns-in_default-clause-rows c =
    let place = rw c.as_slice.ensures.value at c.in_default.ensures in
    removed_missing c.args.name.now (Some c.args.priority) c.args.callback c.args.hooks.now.items c.in_default.field-0 place.1

pub drop_empty-requires-clause-order : goal.drop_empty-requires-clause-order
drop_empty-requires-clause-order c =
    let place = rw c.as_slice.ensures.value at c.in-Ok.ensures in
    order_set c.args.hooks.now.items c.in-Ok.place c.index_mut.result.now c.remove-gone.new.self place.0 (c.remove-gone.ensures.name ∙ ap (λ h. h.name) c.index_mut.ensures.value) c.requires

pub returns-clause-rows : goal.returns-clause-rows
returns-clause-rows c =
    let z : to_z w64 (of_z w64 c.args.priority) ≡ c.args.priority = to_z-of_z w64 c.args.priority c.ranges.priority in
    let place = rw c.as_slice.ensures.value at c.in-Ok.ensures in
    let entries = rw z at c.remove-gone.ensures.entries in
    c.drop_empty.ensures.rows ∙ removed_found c.args.name.now (Some c.args.priority) c.args.callback c.args.hooks.now.items c.in-Ok.place c.index_mut.result.now c.remove-gone.new.self c.requires place.0 place.1 c.index_mut.ensures.value c.remove-gone.ensures.name entries

pub returns-clause-others : goal.returns-clause-others
returns-clause-others c =
    let place = rw c.as_slice.ensures.value at c.in-Ok.ensures in
    λ m e. c.drop_empty.ensures.groups m ∙ others_set c.args.name.now c.args.hooks.now.items c.in-Ok.place c.index_mut.result.now c.remove-gone.new.self place.0 place.1 c.index_mut.ensures.value c.remove-gone.ensures.name m e

pub returns-clause-gone : goal.returns-clause-gone
returns-clause-gone c =
    let place = rw c.as_slice.ensures.value at c.in-Ok.ensures in
    let same : length (table_rows c.drop_empty.new.hooks.items) ≡ length (table_rows (set c.args.hooks.now.items c.in-Ok.place c.remove-gone.new.self)) = ap (λ xs. length xs) c.drop_empty.ensures.rows in
    let long = length_set c.args.hooks.now.items c.in-Ok.place c.index_mut.result.now c.remove-gone.new.self place.0 in
    let at = ap (λ h. length (hook_entries h)) c.index_mut.ensures.value in
    let gone = c.remove-gone.ensures.gone in
    omega arith

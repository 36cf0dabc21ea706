use Rattle.std.proofs.Common.{◌≡◌, ◌∙◌, ap, sym, subst, arith, length, get_or, None}
use Rattle.std.specs.Prelude.{remove}
use Rattle.press_hooks.specs.Hooked.{IsByName, KeepsOthers, hook_entries, entries_of, table_rows}
use Rattle.press_hooks.proofs.Named.{hook_removed, removed_missing, order_remove, others_remove, length_removed, length_within}
use Rattle.press_hooks.proofs.hooks.remove_hook.Goals as goal

pub returns-in_default-clause-rows : goal.returns-in_default-clause-rows
returns-in_default-clause-rows c =
    let place = rw c.as_slice.ensures.value at c.in_default.ensures in
    removed_missing c.args.name.now None None c.args.hooks.now.items c.in_default.field-0 place.1

pub returns-clause-rows : goal.returns-clause-rows
returns-clause-rows c =
    let place = rw c.as_slice.ensures.value at c.in-Ok.ensures in
    ap table_rows c.remove.ensures.items ∙ hook_removed c.args.name.now c.args.hooks.now.items c.in-Ok.place c.requires.order place.0 place.1

pub returns-clause-others : goal.returns-clause-others
returns-clause-others c =
    let place = rw c.as_slice.ensures.value at c.in-Ok.ensures in
    subst (KeepsOthers c.args.name.now c.args.hooks.now.items) (sym c.remove.ensures.items) (others_remove c.args.name.now c.args.hooks.now.items c.in-Ok.place c.index.result.now place.0 place.1)

pub returns-clause-order : goal.returns-clause-order
returns-clause-order c = subst IsByName (sym c.remove.ensures.items) (order_remove c.args.hooks.now.items c.in-Ok.place c.requires.order)

pub returns-clause-gone : goal.returns-clause-gone
returns-clause-gone c =
    let place = rw c.as_slice.ensures.value at c.in-Ok.ensures in
    let mine : length (entries_of c.groups.result.now) ≡ length (hook_entries (get_or c.args.hooks.now.items c.in-Ok.place c.index.result.now)) = ap (λ gs. length (entries_of gs)) c.groups.ensures.items ∙ ap (λ h. length (hook_entries h)) c.index.ensures in
    let all = length_removed c.args.hooks.now.items c.in-Ok.place c.index.result.now place.0 in
    let same : length (table_rows c.remove.new.self.items) ≡ length (table_rows (remove c.args.hooks.now.items c.in-Ok.place)) = ap (λ hs. length (table_rows hs)) c.remove.ensures.items in
    omega arith

pub entry_count-gone-requires : goal.entry_count-gone-requires
entry_count-gone-requires c =
    let place = rw c.as_slice.ensures.value at c.in-Ok.ensures in
    let mine : length (entries_of c.groups.result.now) ≡ length (hook_entries (get_or c.args.hooks.now.items c.in-Ok.place c.index.result.now)) = ap (λ gs. length (entries_of gs)) c.groups.ensures.items ∙ ap (λ h. length (hook_entries h)) c.index.ensures in
    let all = length_within c.args.hooks.now.items c.in-Ok.place c.index.result.now place.0 in
    let small = c.requires.small in
    omega arith

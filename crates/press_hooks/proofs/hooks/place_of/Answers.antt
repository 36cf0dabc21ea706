use Rattle.std.proofs.Common.{◌≡◌, ◌∙◌, ap, sym, not, map, filter, [], false, refl, rules}
use Rattle.press_hooks.specs.HookRows.{is_of_hook}
use Rattle.press_hooks.specs.Hooked.{entries_of, row_of, table_rows}
use Rattle.press_hooks.proofs.Named.{found_rows, missing_rows}
use Rattle.press_hooks.proofs.OfHook.{has_is}
use Rattle.press_hooks.proofs.Reaching.{some_group}
use Rattle.press_hooks.proofs.hooks.place_of.Goals as goal

pub returns-in_default : goal.returns-in_default
returns-in_default c =
    sym (has_is c.args.name.now (table_rows c.args.hooks.now) [] (missing_rows c.args.name.now c.args.hooks.now c.in_default.field-0 c.in_default.ensures.1) false refl)

pub returns-then-is_empty : goal.returns-then-is_empty
returns-then-is_empty c =
    let gs = c.groups.result.now in
    let rows : filter (is_of_hook c.args.name.now) (table_rows c.args.hooks.now) ≡ map (row_of c.args.name.now) (entries_of gs)
    = found_rows c.args.name.now c.args.hooks.now c.in-Ok.place c.index-hooks-place.result c.requires c.in-Ok.ensures.0 c.in-Ok.ensures.1
    ∙ (ap (λ h. map (row_of c.args.name.now) (entries_of h.groups)) (sym c.index-hooks-place.is) ∙ ap (λ xs. map (row_of c.args.name.now) (entries_of xs)) (sym c.groups.ensures.items)) in
    sym (has_is c.args.name.now (table_rows c.args.hooks.now) (entries_of gs) rows (not c.is_empty.result) (some_group gs c.is_empty.result c.groups.ensures.order (search rules)) ∙ ap not c.if-is_empty.true)

pub returns : goal.returns
returns c =
    let gs = c.groups.result.now in
    let rows : filter (is_of_hook c.args.name.now) (table_rows c.args.hooks.now) ≡ map (row_of c.args.name.now) (entries_of gs)
    = found_rows c.args.name.now c.args.hooks.now c.in-Ok.place c.index-hooks-place.result c.requires c.in-Ok.ensures.0 c.in-Ok.ensures.1
    ∙ (ap (λ h. map (row_of c.args.name.now) (entries_of h.groups)) (sym c.index-hooks-place.is) ∙ ap (λ xs. map (row_of c.args.name.now) (entries_of xs)) (sym c.groups.ensures.items)) in
    sym (has_is c.args.name.now (table_rows c.args.hooks.now) (entries_of gs) rows (not c.is_empty.result) (some_group gs c.is_empty.result c.groups.ensures.order (search rules)) ∙ ap not c.if-is_empty.false)

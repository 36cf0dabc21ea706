use Rattle.std.proofs.Common.{◌∙◌, ap, sym, map}
use Rattle.press_hooks.specs.Hooked.{entries_of, row_of}
use Rattle.press_hooks.proofs.Named.{found_rows, found_named, missing_rows, missing_named}
use Rattle.press_hooks.proofs.hooks.groups_near.Goals as goal

pub returns-in-Ok-clause-groups : goal.returns-in-Ok-clause-groups
returns-in-Ok-clause-groups c =
    c.groups.ensures.items
    ∙ (ap (λ h. h.groups) c.index-hooks-place.is ∙ found_named c.args.name.now c.args.hooks.now c.in-Ok.place c.index-hooks-place.result c.requires c.in-Ok.ensures.0 c.in-Ok.ensures.1)

pub returns-in-Ok-clause-rows : goal.returns-in-Ok-clause-rows
returns-in-Ok-clause-rows c =
    found_rows c.args.name.now c.args.hooks.now c.in-Ok.place c.index-hooks-place.result c.requires c.in-Ok.ensures.0 c.in-Ok.ensures.1
    ∙ (ap (λ h. map (row_of c.args.name.now) (entries_of h.groups)) (sym c.index-hooks-place.is) ∙ ap (λ gs. map (row_of c.args.name.now) (entries_of gs)) (sym c.groups.ensures.items))

pub returns-in-Err-clause-groups : goal.returns-in-Err-clause-groups
returns-in-Err-clause-groups c = missing_named c.args.name.now c.args.hooks.now c.in-Err.field-0 c.in-Err.ensures.1

pub returns-in-Err-clause-rows : goal.returns-in-Err-clause-rows
returns-in-Err-clause-rows c = missing_rows c.args.name.now c.args.hooks.now c.in-Err.field-0 c.in-Err.ensures.1

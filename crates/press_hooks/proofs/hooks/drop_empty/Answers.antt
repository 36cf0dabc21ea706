use Rattle.std.proofs.Common.{◌≡◌, ◌∙◌, ap, sym, subst, rules, []}
use Rattle.press_hooks.specs.Hooked.{IsByName, entries_of, table_rows, groups_named}
use Rattle.press_hooks.proofs.Named.{removed_rows, order_remove, groups_same, empty_where}
use Rattle.press_hooks.proofs.hooks.drop_empty.Goals as goal

pub returns-then-is_empty-clause-rows : goal.returns-then-is_empty-clause-rows
returns-then-is_empty-clause-rows c =
    let none : c.index.result.now.groups ≡ [] = sym c.groups.ensures.items ∙ empty_where c.groups.result.now (search rules) in
    ap table_rows c.remove.ensures.items ∙ removed_rows c.args.hooks.now.items c.args.place c.index.result.now c.requires.within (ap (λ h. entries_of h.groups) (sym c.index.ensures) ∙ ap entries_of none)

pub returns-then-is_empty-clause-groups : goal.returns-then-is_empty-clause-groups
returns-then-is_empty-clause-groups c =
    let none : c.index.result.now.groups ≡ [] = sym c.groups.ensures.items ∙ empty_where c.groups.result.now (search rules) in
    λ m. ap (groups_named m) c.remove.ensures.items ∙ groups_same c.args.hooks.now.items c.args.place c.index.result.now c.requires.order c.requires.within (ap (λ h. h.groups) (sym c.index.ensures) ∙ none) m

pub returns-then-is_empty-clause-order : goal.returns-then-is_empty-clause-order
returns-then-is_empty-clause-order c = subst IsByName (sym c.remove.ensures.items) (order_remove c.args.hooks.now.items c.args.place c.requires.order)

use Rattle.std.proofs.Common.{◌∙◌, ap, sym}
use Rattle.press_hooks.specs.HookRows.{priority_of}
use Rattle.press_hooks.specs.Hooked.{entries_of, table_rows}
use Rattle.press_hooks.proofs.ByPriority.{order_entries}
use Rattle.press_hooks.proofs.OfHook.{priority_is}
use Rattle.press_hooks.proofs.table.HookTable.has.Goals as goal

pub returns : goal.returns
returns c =
    c.priority_of.ensures
    ∙ (sym (priority_is c.args.hook.now (table_rows c.self.inside.rows) (entries_of c.groups_of.result.now) c.groups_of.ensures.rows (order_entries c.groups_of.result.now c.groups_of.ensures.order) c.args.callback)
    ∙ ap (λ t. priority_of c.args.hook.now c.args.callback t.rows) c.self.view_is)

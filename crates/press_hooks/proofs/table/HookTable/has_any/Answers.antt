use Rattle.std.proofs.Common.{◌∙◌, ap, sym, not, rules}
use Rattle.press_hooks.specs.HookRows.{has_rows}
use Rattle.press_hooks.specs.Hooked.{entries_of, table_rows}
use Rattle.press_hooks.proofs.OfHook.{has_is}
use Rattle.press_hooks.proofs.Reaching.{some_group}
use Rattle.press_hooks.proofs.table.HookTable.has_any.Goals as goal

pub returns : goal.returns
returns c =
    sym (has_is c.args.hook.now (table_rows c.self.inside.rows) (entries_of c.groups_of.result.now) c.groups_of.ensures.rows (not c.is_empty.result) (some_group c.groups_of.result.now c.is_empty.result c.groups_of.ensures.order (search rules)))
    ∙ ap (λ t. has_rows c.args.hook.now t.rows) c.self.view_is

use Rattle.std.proofs.Common.{sym, subst}
use Rattle.press_hooks.specs.HookRows.{remove_rows}
use Rattle.press_hooks.specs.Hooked.{IsEach}
use Rattle.press_hooks.specs.Placed.{IsInPlace}
use Rattle.press_hooks.proofs.Runs.{all_mended, edited_view}
use Rattle.press_hooks.proofs.table.HookTable.remove_all.Goals as goal

pub invariant_of-self : goal.invariant_of-self
invariant_of-self c =
    subst (IsEach (IsInPlace c.remove_all.new.self)) (sym c.mend_all.ensures)
    (all_mended c.args.hook.now c.self.inside.rows c.remove_all.new.self c.remove_all.ensures.others c.self.inside.runs.items c.self.invariant)

pub returns : goal.returns
returns c =
    edited_view c.args.hook.now c.self.inside.rows c.remove_all.new.self c.self.inside.runs.items c.mend_all.new.runs.items c.args.self.now (remove_rows c.args.hook.now c.args.priority) c.self.view_is c.mend_all.ensures c.remove_all.ensures.rows

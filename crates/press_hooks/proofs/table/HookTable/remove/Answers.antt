use Rattle.std.proofs.Common.{◌≡◌, sym, subst, to_z, of_z, w64}
use Rattle.std.proofs.lemmas.Int.{to_z-of_z}
use Rattle.press_hooks.specs.HookRows.{remove_row}
use Rattle.press_hooks.specs.Hooked.{IsEach}
use Rattle.press_hooks.specs.Placed.{IsInPlace}
use Rattle.press_hooks.proofs.Runs.{all_mended, edited_view}
use Rattle.press_hooks.proofs.table.HookTable.remove.Goals as goal

pub invariant_of-self : goal.invariant_of-self
invariant_of-self c =
    subst (IsEach (IsInPlace c.remove.new.self)) (sym c.mend_all.ensures)
    (all_mended c.args.hook.now c.self.inside.rows c.remove.new.self c.remove.ensures.others c.self.inside.runs.items c.self.invariant)

pub returns-clause-rows : goal.returns-clause-rows
returns-clause-rows c =
    let z : to_z w64 (of_z w64 c.args.priority) ≡ c.args.priority = to_z-of_z w64 c.args.priority c.ranges.priority in
    let rows = rw z at c.remove.ensures.rows in
    edited_view c.args.hook.now c.self.inside.rows c.remove.new.self c.self.inside.runs.items c.mend_all.new.runs.items c.args.self.now (remove_row c.args.hook.now c.args.callback c.args.priority) c.self.view_is c.mend_all.ensures rows

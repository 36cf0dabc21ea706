use Rattle.std.proofs.Common.{◌≡◌, sym, subst, to_z, of_z, w64}
use Rattle.std.proofs.lemmas.Int.{to_z-of_z}
use Rattle.press_hooks.specs.HookRows.{add_row}
use Rattle.press_hooks.specs.Hooked.{IsEach, table_rows}
use Rattle.press_hooks.specs.Placed.{IsInPlace}
use Rattle.press_hooks.proofs.Runs.{all_mended, edited_view}
use Rattle.press_hooks.proofs.table.HookTable.add.Goals as goal

pub invariant_of-self-2 : goal.invariant_of-self-2
invariant_of-self-2 c =
    subst (IsEach (IsInPlace c.add.new.self)) (sym c.mend_all.ensures)
    (all_mended c.args.hook.now c.self.inside.rows c.add.new.self c.in_ok-stands.ensures.others c.self.inside.runs.items c.self.invariant)

pub returns-clause-rows : goal.returns-clause-rows
returns-clause-rows c =
    let z : to_z w64 (of_z w64 c.args.priority) ≡ c.args.priority = to_z-of_z w64 c.args.priority c.ranges.priority in
    let rows = subst (λ p. table_rows c.add.new.self ≡ add_row c.args.hook.now c.args.callback p c.args.accepted (table_rows c.self.inside.rows)) z c.in_ok-stands.ensures.rows in
    edited_view c.args.hook.now c.self.inside.rows c.add.new.self c.self.inside.runs.items c.mend_all.new.runs.items c.args.self.now (add_row c.args.hook.now c.args.callback c.args.priority c.args.accepted) c.self.view_is c.mend_all.ensures rows

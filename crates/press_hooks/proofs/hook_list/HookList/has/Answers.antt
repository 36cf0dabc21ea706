use Rattle.std.proofs.Common.{◌≡◌, ◌∙◌, sym, to_z, of_z, w64}
use Rattle.std.proofs.lemmas.Int.{to_z-of_z}
use Rattle.press_hooks.specs.Hooked.{entries_of, table_rows}
use Rattle.press_hooks.proofs.OfHook.{stands}
use Rattle.press_hooks.proofs.hook_list.HookList.has.Goals as goal

pub returns-clause-row : goal.returns-clause-row
returns-clause-row c =
    let z : to_z w64 (of_z w64 c.args.priority) ≡ c.args.priority = to_z-of_z w64 c.args.priority c.ranges.priority in
    let has = rw z at c.has.ensures in
    has ∙ sym (stands c.args.hook.now (table_rows c.args.self.now) (entries_of c.groups_of.result.now) c.groups_of.ensures.rows c.args.priority c.args.callback)

use Rattle.std.proofs.Common.{◌≡◌}
use Rattle.std.proofs.lemmas.Result.{IfOk-weaker}
use Rattle.press_hooks.specs.NextEntry.{next_entry, entry_next}
use Rattle.press_hooks.specs.Hooked.{table_rows}
use Rattle.press_hooks.proofs.Runs.{advanced_placed, handed_placed}
use Rattle.press_hooks.proofs.table.HookTable.next.Goals as goal

pub returns-clause-advanced : goal.returns-clause-advanced
returns-clause-advanced c =
    IfOk-weaker _ _ _ (λ e h. advanced_placed (table_rows c.self.inside.rows) c.self.inside.runs.items c.run.inside.depth c.index_mut-open.result.now c.advance.new.self c.args.self.now c.self.view_is (rw c.run.view_is c.requires) c.index_mut-open.ensures.value h) c.advance.ensures.after

pub returns-clause-given : goal.returns-clause-given
returns-clause-given c =
    let same : next_entry (table_rows c.self.inside.rows) c.index_mut-open.result.now.run ≡ entry_next c.args.self.now.rows c.args.self.now.open_runs
    = handed_placed (table_rows c.self.inside.rows) c.self.inside.runs.items c.run.inside.depth c.index_mut-open.result.now c.args.self.now c.self.view_is (rw c.run.view_is c.requires) c.index_mut-open.ensures.value in
    rw same at c.advance.ensures.given

use Rattle.std.proofs.Common.{arith}
use Rattle.sqlite.specs.State.{HasCleanDisk}
use Rattle.sqlite.specs.Held.{state}
use Rattle.press_store.proofs.Added.{tables_added}
use Rattle.press_store.proofs.migrate.add_tables.Goals as goal

pub returns-clause-added : goal.returns-clause-added
returns-clause-added g c clean inside has =
    let old = state g.S.Store c.args.tx.now.conn.now in
    let mid = state g.S.Store c.execute.new.self.conn.now in
    let new = state g.S.Store c.execute-2.new.self.conn.now in
    let was : HasCleanDisk mid = omega (arith, c.execute-2.ensures.survives.clean, clean) in
    let one = c.in_ok-execute.ensures.runs was inside in
    tables_added old mid new c.in_ok-execute.field-0 c.execute-2.result has one (c.execute-2.ensures.runs clean one.1.mode)

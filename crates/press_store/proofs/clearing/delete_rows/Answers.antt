use Rattle.sqlite.specs.Held.{state}
use Rattle.press_store.proofs.Cleared.{rows_deleted}
use Rattle.press_store.proofs.clearing.delete_rows.Goals as goal

pub returns-clause-cleared : goal.returns-clause-cleared
returns-clause-cleared g c clean inside has = rows_deleted (state g.S.Store c.args.tx.now.conn.now) (state g.S.Store c.execute.new.self.conn.now) c.execute.result has (c.execute.ensures.runs clean inside)

use Rattle.sqlite.specs.Held.{state}
use Rattle.press_store.proofs.Outside.{outside_shown}
use Rattle.press_store.proofs.Inside.{query_keeps, query_goes_on}
use Rattle.press_store.proofs.version_1_rows.rows_outside.Goals as goal

pub returns-clause-found : goal.returns-clause-found
returns-clause-found g c clean inside has =
    outside_shown (state g.S.Store c.args.tx.now.conn.now) (state g.S.Store c.query_all.new.self.conn.now) c.args.slot c.query_all.result has (rw c.number_value.ensures at (c.query_all.ensures.ok clean))

pub returns-clause-kept : goal.returns-clause-kept
returns-clause-kept g c clean inside =
    query_keeps _ _ (state g.S.Store c.args.tx.now.conn.now) (state g.S.Store c.query_all.new.self.conn.now) c.query_all.result inside (c.query_all.ensures.ok clean) (c.query_all.ensures.err clean)

pub returns-clause-goes_on : goal.returns-clause-goes_on
returns-clause-goes_on g c clean inside =
    query_goes_on _ _ (state g.S.Store c.args.tx.now.conn.now) (state g.S.Store c.query_all.new.self.conn.now) c.query_all.result inside (c.query_all.ensures.ok clean)

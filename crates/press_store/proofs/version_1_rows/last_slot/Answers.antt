use Rattle.sqlite.specs.Held.{state}
use Rattle.press_store.proofs.SlotRows.{last_looks}
use Rattle.press_store.proofs.Inside.{query_keeps, query_goes_on}
use Rattle.press_store.proofs.version_1_rows.last_slot.Goals as goal

pub returns-clause-looks : goal.returns-clause-looks
returns-clause-looks g c clean inside has =
    last_looks (state g.S.Store c.args.tx.now.conn.now) (state g.S.Store c.query_all.new.self.conn.now) c.query_all.result has (c.query_all.ensures.ok clean)

pub returns-clause-kept : goal.returns-clause-kept
returns-clause-kept g c clean inside =
    query_keeps _ _ (state g.S.Store c.args.tx.now.conn.now) (state g.S.Store c.query_all.new.self.conn.now) c.query_all.result inside (c.query_all.ensures.ok clean) (c.query_all.ensures.err clean)

pub returns-clause-goes_on : goal.returns-clause-goes_on
returns-clause-goes_on g c clean inside =
    query_goes_on _ _ (state g.S.Store c.args.tx.now.conn.now) (state g.S.Store c.query_all.new.self.conn.now) c.query_all.result inside (c.query_all.ensures.ok clean)

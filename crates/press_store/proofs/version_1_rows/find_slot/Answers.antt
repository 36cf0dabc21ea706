use Rattle.sqlite.specs.Held.{state}
use Rattle.press_store.proofs.SlotRows.{slot_found}
use Rattle.press_store.proofs.Inside.{query_keeps, query_goes_on}
use Rattle.press_store.proofs.version_1_rows.find_slot.Goals as goal

pub returns-clause-found : goal.returns-clause-found
returns-clause-found g c clean inside has =
    slot_found (state g.S.Store c.args.tx.now.conn.now) (state g.S.Store c.query_all.new.self.conn.now) c.args.slot c.query_all.result has (rw c.slot_value.ensures.value at (c.query_all.ensures.ok clean))

pub returns-clause-kept : goal.returns-clause-kept
returns-clause-kept g c clean inside =
    query_keeps _ _ (state g.S.Store c.args.tx.now.conn.now) (state g.S.Store c.query_all.new.self.conn.now) c.query_all.result inside (c.query_all.ensures.ok clean) (c.query_all.ensures.err clean)

pub returns-clause-goes_on : goal.returns-clause-goes_on
returns-clause-goes_on g c clean inside =
    query_goes_on _ _ (state g.S.Store c.args.tx.now.conn.now) (state g.S.Store c.query_all.new.self.conn.now) c.query_all.result inside (c.query_all.ensures.ok clean)

use Rattle.sqlite.specs.Held.{state}
use Rattle.press_store.proofs.StartPuts.{start_done}
use Rattle.press_store.proofs.count.put_mark.Goals as goal

pub returns-clause-acts : goal.returns-clause-acts
returns-clause-acts g c clean inside l there has =
    start_done (state g.S.Store c.args.tx.now.conn.now) (state g.S.Store c.execute.new.self.conn.now) c.args.mark c.execute.result c.requires c.digest_value-2.ensures.range l there has
    (rw (c.digest_value.ensures.value, c.digest_value-2.ensures.value) at (c.execute.ensures.runs clean inside))

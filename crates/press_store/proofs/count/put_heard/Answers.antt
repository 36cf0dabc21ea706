use Rattle.std.proofs.Common.{◌≡◌, true}
use Rattle.std.proofs.lemmas.Bool.{le-leb}
use Rattle.sqlite.specs.Held.{state}
use Rattle.press_store.specs.Starts.{is_member}
use Rattle.press_store.proofs.StartPuts.{mark_done}
use Rattle.press_store.proofs.count.put_heard.Goals as goal

pub returns-clause-acts : goal.returns-clause-acts
returns-clause-acts g c clean inside l there has =
    let range = c.node_value.ensures.range in
    let member : is_member c.args.it.member ≡ true = rw (le-leb 1 c.args.it.member range.0, le-leb c.args.it.member 7 range.1) in
    mark_done (state g.S.Store c.args.tx.now.conn.now) (state g.S.Store c.execute.new.self.conn.now) c.args.it c.execute.result member c.digest_value.ensures.range c.digest_value-2.ensures.range l there has
    (rw (c.node_value.ensures.value, c.digest_value.ensures.value, c.digest_value-2.ensures.value) at (c.execute.ensures.runs clean inside))

use Rattle.sqlite.specs.Held.{state}
use Rattle.press_store.proofs.Marked.{version_set}
use Rattle.press_store.proofs.marking.set_version.Goals as goal

pub returns-clause-set : goal.returns-clause-set
returns-clause-set g c clean inside has = version_set (state g.S.Store c.args.tx.now.conn.now) (state g.S.Store c.execute.new.self.conn.now) c.execute.result has (c.execute.ensures.runs clean inside)

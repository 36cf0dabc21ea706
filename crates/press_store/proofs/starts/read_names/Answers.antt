use Rattle.sqlite.specs.Held.{state}
use Rattle.press_store.proofs.StartShown.{looked_itself}
use Rattle.press_store.proofs.starts.read_names.Goals as goal

pub returns-then-not-has_starts-clause-looks : goal.returns-then-not-has_starts-clause-looks
returns-then-not-has_starts-clause-looks g c clean ready = looked_itself (state g.S.Store c.args.conn.now) (ready clean)

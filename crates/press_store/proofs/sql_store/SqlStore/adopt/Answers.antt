use Rattle.std.proofs.Common.{arith}
use Rattle.press_store.proofs.Adopting.{only_kept}
use Rattle.press_store.proofs.sql_store.SqlStore.adopt.Goals as goal

pub returns-in-Err-clause-left : goal.returns-in-Err-clause-left
returns-in-Err-clause-left g c clean = (omega (arith, c.in-Err.ensures.clean, clean), λ served up store may. only_kept g.D.Store g.met.D.Store.settled c.args.conn up store ((c.in-Err.ensures.back clean served).maps store may))

use Rattle.press_acceptor.proofs.Turned.{settled_stays}
use Rattle.press_acceptor.proofs.laws.a_settled_store_stays_settled.Goals as goal

pub returns : goal.returns
returns g c = λ old new save. settled_stays (g.S.PromiseStore.seen old) (g.S.PromiseStore.seen new) save

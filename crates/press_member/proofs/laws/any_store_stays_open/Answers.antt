use Rattle.press_member.proofs.Opening.{stays_open}
use Rattle.press_member.proofs.laws.any_store_stays_open.Goals as goal

pub returns : goal.returns
returns g c = λ s t old new event outcome opened honest p. stays_open g.S.PromiseStore.seen s t honest old new event outcome opened p

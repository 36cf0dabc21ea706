use Rattle.press_member.proofs.Acting.{acts}
use Rattle.press_member.proofs.laws.any_store_acts.Goals as goal

pub returns : goal.returns
returns g c = λ s t old new event outcome settled honest p. acts g.S.PromiseStore.seen s t settled honest old new event outcome p

use Rattle.press_learner.proofs.Settled.{dry_after_64}
use Rattle.press_learner.proofs.laws.none_is_chosen_after_64.Goals as goal

pub returns : goal.returns
returns c = λ k window. dry_after_64 k window

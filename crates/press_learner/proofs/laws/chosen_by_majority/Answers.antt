use Rattle.press_learner.proofs.Majorities.{majority_of_chosen, chosen_of_majority}
use Rattle.press_learner.proofs.laws.chosen_by_majority.Goals as goal

pub returns : goal.returns
returns c = λ k value. (majority_of_chosen k value, chosen_of_majority k value)

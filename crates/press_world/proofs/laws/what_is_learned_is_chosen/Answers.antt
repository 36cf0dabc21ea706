use Rattle.press_world.proofs.Votes.{chosen_by_kept}
use Rattle.press_world.proofs.laws.what_is_learned_is_chosen.Goals as goal

pub returns : goal.returns
returns c n k value trace = λ l cast size e. chosen_by_kept n trace k value l cast size ((c.chosen_by_majority.ensures k value).0 e)

use Rattle.press_learner.proofs.Came.{none_at_start, vote_came, none_came}
use Rattle.press_learner.proofs.laws.only_votes_that_came_are_kept.Goals as goal

pub returns-clause-start : goal.returns-clause-start
returns-clause-start c n slot member = none_at_start n slot member

pub returns-clause-vote : goal.returns-clause-vote
returns-clause-vote c k m s v = vote_came k m s v

pub returns-clause-advance : goal.returns-clause-advance
returns-clause-advance c k = none_came k

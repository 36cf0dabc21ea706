use Rattle.press_acceptor.proofs.Ballots.{is_less-true, is_less-false}
use Rattle.press_acceptor.proofs.laws.ballots_are_ordered.Goals as goal

pub returns-clause-less : goal.returns-clause-less
returns-clause-less c = λ b d. is_less-true b d

pub returns-clause-at_most : goal.returns-clause-at_most
returns-clause-at_most c = λ b d. is_less-false b d

use Rattle.press_acceptor.proofs.Agreement.{one_chosen, chosen_later}
use Rattle.press_acceptor.proofs.laws.at_most_one_value_chosen.Goals as goal

pub returns-clause-now : goal.returns-clause-now
returns-clause-now c n block_of trace slot v w = λ l h k. one_chosen n block_of trace l slot v w h k

pub returns-clause-ever : goal.returns-clause-ever
returns-clause-ever c n block_of later earlier slot v w = λ l h k. one_chosen n block_of _ l slot v w (chosen_later n later earlier slot v h) k

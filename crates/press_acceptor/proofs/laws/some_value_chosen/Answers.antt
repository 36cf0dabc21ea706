use Rattle.press_acceptor.proofs.Example.{voted, voted_legal, voted_chosen}
use Rattle.press_acceptor.proofs.laws.some_value_chosen.Goals as goal

pub returns : goal.returns
returns c v = (voted (record { round = 1; node = 1 }) v, voted_legal _ v, voted_chosen _ v)

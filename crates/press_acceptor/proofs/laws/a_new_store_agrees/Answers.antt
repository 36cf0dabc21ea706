use Rattle.press_acceptor.proofs.NewStores.{new_store_agrees}
use Rattle.press_acceptor.proofs.laws.a_new_store_agrees.Goals as goal

pub returns-clause-agrees : goal.returns-clause-agrees
returns-clause-agrees c member = new_store_agrees member

pub returns-clause-legal : goal.returns-clause-legal
returns-clause-legal c n block_of = tt

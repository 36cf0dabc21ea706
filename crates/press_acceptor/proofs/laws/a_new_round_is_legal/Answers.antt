use Rattle.press_acceptor.proofs.NewRounds.{can_begin}
use Rattle.press_acceptor.proofs.laws.a_new_round_is_legal.Goals as goal

pub returns : goal.returns
returns c = record { rounds = λ m s t agrees. can_begin m s t agrees }

use Rattle.press_batch.proofs.Fitting.{spelled_last}
use Rattle.press_batch.proofs.laws.a_last_message_is_spelled_last.Goals as goal

pub returns : goal.returns
returns c = spelled_last

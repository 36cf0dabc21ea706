use Rattle.press_wire.proofs.MessageLaws.{reads_back}
use Rattle.press_wire.proofs.laws.messages_read_back.Goals as goal

pub returns : goal.returns
returns c = reads_back

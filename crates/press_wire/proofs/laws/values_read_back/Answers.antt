use Rattle.press_wire.proofs.ValueLaws.{reads_back}
use Rattle.press_wire.proofs.laws.values_read_back.Goals as goal

pub returns : goal.returns
returns c = reads_back

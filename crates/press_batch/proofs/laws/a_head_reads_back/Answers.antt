use Rattle.press_batch.proofs.Again.{head_reads_back}
use Rattle.press_batch.proofs.laws.a_head_reads_back.Goals as goal

pub returns : goal.returns
returns c = head_reads_back

use Rattle.press_batch.proofs.Again.{batch_reads_back}
use Rattle.press_batch.proofs.laws.a_batch_reads_back.Goals as goal

pub returns : goal.returns
returns c = batch_reads_back

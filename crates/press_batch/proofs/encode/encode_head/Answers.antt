use Rattle.std.proofs.Common.{ap, ◌∙◌}
use Rattle.press_batch.specs.Reading.{read_head}
use Rattle.press_batch.proofs.Again.{head_reads_back}
use Rattle.press_batch.proofs.encode.encode_head.Goals as goal

pub returns-clause-reads : goal.returns-clause-reads
returns-clause-reads c = ap read_head c.in_ok-bytes.ensures ∙ head_reads_back c.args.head.now c.hold_head.ensures

use Rattle.std.proofs.Common.{List, ap, subst, ◌∙◌}
use Rattle.press_wire.specs.declared.message.Message.{Message}
use Rattle.press_batch.specs.Carried.{carried_by}
use Rattle.press_batch.specs.Held.{ReadBack}
use Rattle.press_batch.proofs.Again.{made_reads}
use Rattle.press_batch.proofs.encode.encode_batch.Goals as goal

pub returns-clause-reads : goal.returns-clause-reads
returns-clause-reads c = λ formed.
    made_reads (carried_by c.args.batch.now) c.into_bytes-bytes.result.items c.in_ok-writer.writer.bytes c.hold_head.ensures (subst (λ (xs : List Message). ReadBack xs) c.as_slice.ensures.value c.in_ok-push_all.ensures.reads)
    (ap (λ w. w.bytes) c.in_ok-writer.ensures.begun) c.as_slice.ensures.value (c.into_bytes-bytes.ensures.bytes ∙ c.in_ok-push_all.ensures.written) c.into_bytes-bytes.ensures.most formed

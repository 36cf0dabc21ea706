use Rattle.press_text.proofs.Mapped.{mapped_step}
use Rattle.press_operator.proofs.counts.note_in.Goals as goal

pub loop-count-preserved : goal.loop-count-preserved
loop-count-preserved c = mapped_step _ _ _ _ _ _ c.loop-count.invariant c.loop-count-test.true c.note.ensures

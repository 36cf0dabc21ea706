use Rattle.press_text.proofs.Mapped.{mapped_step}
use Rattle.press_hooks.proofs.open_run.mend_all.Goals as goal

pub loop-run-preserved : goal.loop-run-preserved
loop-run-preserved c = mapped_step _ _ _ _ _ _ c.loop-run.invariant c.loop-run-test.true c.mend.ensures

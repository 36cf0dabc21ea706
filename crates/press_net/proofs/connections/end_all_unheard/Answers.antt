use Rattle.press_text.proofs.Mapped.{mapped_step}
use Rattle.press_net.proofs.connections.end_all_unheard.Goals as goal

pub loop-slot-preserved : goal.loop-slot-preserved
loop-slot-preserved c = mapped_step _ _ _ _ _ _ c.loop-slot.invariant c.loop-slot-test.true c.end_if_unheard.ensures

use Rattle.press_scan.proofs.Lists.{mapped_step}
use Rattle.press_scan.proofs.tag_table.answer_row.Goals as goal

pub loop-r-preserved : goal.loop-r-preserved
loop-r-preserved c = mapped_step _ _ _ _ _ _ c.loop-r.invariant c.loop-r-test.true c.answer_by.ensures

use Rattle.std.proofs.Common.{◌∙◌, sym}
use Rattle.press_scan.proofs.Lists.{callback_found, callback_passed}
use Rattle.press_scan.proofs.tag_table.callback_of.Goals as goal

pub returns-then-is : goal.returns-then-is
returns-then-is c = callback_found c.args.name.now c.args.rows.now c.loop-r.r-index c.r-item.result c.loop-r-test.true c.r-item.is (sym c.is.ensures ∙ c.if-is.true) ∙ c.loop-r.invariant

pub loop-r-preserved : goal.loop-r-preserved
loop-r-preserved c = callback_passed c.args.name.now c.args.rows.now c.loop-r.r-index c.r-item.result c.loop-r-test.true c.r-item.is (sym c.is.ensures ∙ c.if-is.false) ∙ c.loop-r.invariant

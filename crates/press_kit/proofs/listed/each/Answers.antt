use Rattle.std.proofs.Common.{arith}
use Rattle.std.proofs.lemmas.Result.{err_from_is_err_and}
use Rattle.serde_json.specs.View.{view}
use Rattle.press_kit.proofs.Loop.{goes_on, ends, is_done}
use Rattle.press_kit.proofs.listed.each.Goals as goal

pub returns-in_err-read : goal.returns-in_err-read
returns-in_err-read g c =
    let p = err_from_is_err_and c.from_residual.result c.from_residual.ensures.1 in
    rw (p.1, p.2) (ends g.T.Listed.read c.args.at view c.args.values.now c.in_err-read.field-0.0 c.loop-i.found.items c.loop-i.i c.index-values-i.result _ (omega arith) c.index-values-i.is (rw c.item.ensures at c.in_err-read.ensures) c.loop-i.invariant)

pub loop-i-preserved : goal.loop-i-preserved
loop-i-preserved g c = rw c.in_ok-push.ensures.items (goes_on g.T.Listed.read c.args.at view c.args.values.now c.loop-i.found.items c.loop-i.i c.index-values-i.result c.in_ok-read.field-0 _ (omega arith) c.index-values-i.is (rw c.item.ensures at c.in_ok-read.ensures) c.loop-i.invariant)

pub returns : goal.returns
returns g c = rw c.from_vec.ensures (is_done g.T.Listed.read c.args.at view c.args.values.now c.loop-i.found.items c.loop-i.i _ (omega arith) c.loop-i.invariant)

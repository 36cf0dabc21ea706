use Rattle.std.proofs.Common.{◌∙◌, sym, arith}
use Rattle.press_lint.proofs.Shares.{lacks_it, nobody_has_it, shares_it}
use Rattle.press_lint.proofs.telling.sharer.Goals as goal

pub returns-then-has_name : goal.returns-then-has_name
returns-then-has_name c = shares_it c.args.shares.now c.loop-i.parts c.loop-i.i c.args.at c.args.name.now _ _ (omega arith) (sym c.has_name.ensures ∙ c.if-has_name.true) c.loop-i.invariant

pub loop-i-preserved : goal.loop-i-preserved
loop-i-preserved c =
    rw c.turn_parts-parts.ensures (lacks_it c.args.shares.now c.loop-i.parts c.loop-i.i c.args.at c.args.name.now _ _ (omega arith) (sym c.has_name.ensures ∙ c.if-has_name.false) c.loop-i.invariant)

pub returns : goal.returns
returns c = nobody_has_it c.args.shares.now c.loop-i.parts c.loop-i.i c.args.at c.args.name.now _ (omega arith) c.loop-i.invariant

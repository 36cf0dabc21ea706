use Rattle.std.proofs.Common.{◌∙◌, ◌+◌, sym, ap, arith}
use Rattle.std.proofs.lemmas.Result.{IfOk-weaker}
use Rattle.press_lint.proofs.Shares.{behind_is, of_nobody, tells_behind, tells_nobody, tells_own}
use Rattle.press_lint.proofs.telling.message_about.Goals as goal

pub returns-in-Own : goal.returns-in-Own
returns-in-Own c =
    let behind = behind_is c.args.shares.now (c.loop-i.i + 1) in
    let side = sym (rw behind at c.side_before.ensures) ∙ c.in-Own.is in
    let own = tells_own c.args.shares.now c.loop-i.parts c.loop-i.i c.args.mistake.now c.loop-i.at c.in-Own.own _ _ (omega arith) side c.loop-i.invariant in
    IfOk-weaker c.tell.result _ _ (λ m h. h ∙ own) (rw behind at c.tell.ensures)

pub loop-i-preserved : goal.loop-i-preserved
loop-i-preserved c =
    let side = sym (rw (behind_is c.args.shares.now (c.loop-i.i + 1)) at c.side_before.ensures) ∙ c.in-Behind.is in
    rw c.turn_parts-parts.ensures
    (tells_behind c.args.shares.now c.loop-i.parts c.loop-i.i c.args.mistake.now c.loop-i.at c.in-Behind.rest _ _ (omega arith) side c.loop-i.invariant)

pub returns : goal.returns
returns c =
    ap of_nobody c.in_ok-text.ensures ∙ tells_nobody c.args.shares.now c.loop-i.parts c.loop-i.i c.args.mistake.now c.loop-i.at _ (omega arith) c.loop-i.invariant

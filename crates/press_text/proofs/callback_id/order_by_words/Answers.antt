use Rattle.std.proofs.Common.{◌≡◌, ◌∙◌, ◌+◌, ◌*◌, ◌≤◌, length, arith}
use Rattle.press_text.proofs.Words.{differ, agree}
use Rattle.press_text.proofs.callback_id.order_by_words.Goals as goal

pub returns-then-x-y : goal.returns-then-x-y
returns-then-x-y c =
    let a : 8 * c.loop-i.i + 8 ≤ length c.args.a.now = omega arith in
    let b : 8 * c.loop-i.i + 8 ≤ length c.args.b.now = omega arith in
    c.cmp.ensures
    ∙ differ (8 * c.loop-i.i) c.args.a.now c.args.b.now c.word-x.result c.word-y.result a b c.requires.a c.requires.b c.word-x.ensures c.word-y.ensures c.if-x-y.true
    ∙ c.loop-i.invariant

pub loop-i-preserved : goal.loop-i-preserved
loop-i-preserved c =
    let a : 8 * c.loop-i.i + 8 ≤ length c.args.a.now = omega arith in
    let b : 8 * c.loop-i.i + 8 ≤ length c.args.b.now = omega arith in
    let on : 8 * (c.loop-i.i + 1) ≡ 8 * c.loop-i.i + 8 = omega arith in
    rw on
    (agree (8 * c.loop-i.i) c.args.a.now c.args.b.now c.word-x.result c.word-y.result a b c.requires.a c.requires.b c.word-x.ensures c.word-y.ensures c.if-x-y.false
    ∙ c.loop-i.invariant)

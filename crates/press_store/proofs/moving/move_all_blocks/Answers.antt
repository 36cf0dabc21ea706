use Rattle.std.proofs.Common.{◌≡◌, [], rules, subst, sym, ◌∙◌}
use Rattle.std.specs.Prelude.{IsTrue}
use Rattle.sqlite.specs.Held.{state}
use Rattle.press_store.specs.Moving.{AreEmpty, BlocksMoved}
use Rattle.press_store.proofs.Onward.{was_clean}
use Rattle.press_store.proofs.Outside.{rest_moved}
use Rattle.press_store.proofs.moving.move_all_blocks.Goals as goal

pub returns-clause-moved : goal.returns-clause-moved
returns-clause-moved g c clean inside has =
    let a = c.args.tx.now.conn.now in
    let b = c.last_slot.new.tx.conn.now in
    let d = c.move_blocks.new.tx.conn.now in
    let e = c.rows_outside.new.tx.conn.now in
    let late = was_clean g.S.Store a d e c.in_ok-outside.ensures.survives clean in
    let early = was_clean g.S.Store a b d c.in_ok-move_blocks.ensures.survives late in
    let in1 = c.in_ok-last.ensures.goes_on early inside in
    let in2 = c.in_ok-move_blocks.ensures.goes_on late in1 in
    let one = c.in_ok-last.ensures.looks early inside has in
    let two = c.in_ok-move_blocks.ensures.moved late in1 one.0 in
    let three = c.in_ok-outside.ensures.found clean in2 two.0 in
    let empty : IsTrue c.is_none.result = search rules in
    let shown : c.deref-2.result.now ≡ c.in_ok-outside.outside.items = search rules in
    let none : c.in_ok-outside.outside.items ≡ [] = sym shown ∙ c.is_none.ensures empty in
    let moved = subst (λ trees. AreEmpty trees → BlocksMoved c.blocks_to-count.result trees (state g.S.Store d).now.trees) one.1 two.1 in
    (three.0, λ bare. rest_moved c.blocks_to-count.result (state g.S.Store a).now.trees (state g.S.Store d).now.trees (state g.S.Store e).now.trees c.blocks_to-count.ensures (moved bare) three.1.same (three.1.none none))

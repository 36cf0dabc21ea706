use Rattle.std.proofs.Common.{Ok, Err, Result}
use Rattle.std.specs.Prelude.{IfOk}
use Rattle.sqlite.specs.Held.{state}
use Rattle.press_store.proofs.Onward.{was_clean}
use Rattle.press_store.proofs.Whole.{whole}
use Rattle.press_store.proofs.migrate.move_all.Goals as goal

weaker : {T E : Type 0} {P Q : T → Type 0} (result : Result T E) → ((t : T) → P t → Q t) → IfOk result P → IfOk result Q
weaker (Ok t) so h = so t h
weaker (Err e) so h = tt

pub returns-clause-migrated : goal.returns-clause-migrated
returns-clause-migrated g c clean inside has =
    let a = c.args.tx.now.conn.now in
    let b = c.add_tables.new.tx.conn.now in
    let d = c.move_all_blocks.new.tx.conn.now in
    let e = c.clear.new.tx.conn.now in
    let f = c.mark.new.tx.conn.now in
    let late = was_clean g.S.Store a e f c.mark.ensures.survives clean in
    let mid = was_clean g.S.Store a d e c.in_ok-clear.ensures.survives late in
    let early = was_clean g.S.Store a b d c.in_ok-move_all_blocks.ensures.survives mid in
    let in1 = c.in_ok-add_tables.ensures.goes_on early inside in
    let in2 = c.in_ok-move_all_blocks.ensures.goes_on mid in1 in
    let in3 = c.in_ok-clear.ensures.goes_on late in2 in
    let one = c.in_ok-add_tables.ensures.added early inside has in
    let two = c.in_ok-move_all_blocks.ensures.moved mid in1 one.0 in
    let three = c.in_ok-clear.ensures.cleared late in2 two.0 in
    weaker c.mark.result (λ _ four. (four.0, whole (state g.S.Store a).now.trees (state g.S.Store b).now.trees (state g.S.Store d).now.trees (state g.S.Store e).now.trees (state g.S.Store f).now.trees one.1 two.1 three.1 four.1))
    (c.mark.ensures.marked clean in3 three.0)

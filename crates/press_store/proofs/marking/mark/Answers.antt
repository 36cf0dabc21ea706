use Rattle.std.proofs.Common.{rules}
use Rattle.std.specs.Prelude.{IsTrue}
use Rattle.sqlite.specs.Held.{state}
use Rattle.press_store.proofs.Marked.{marked}
use Rattle.press_store.proofs.Onward.{was_clean}
use Rattle.press_store.proofs.marking.mark.Goals as goal

pub returns-clause-marked : goal.returns-clause-marked
returns-clause-marked g c clean inside has =
    let a = c.args.tx.now.conn.now in
    let b = c.number_of.new.tx.conn.now in
    let d = c.number_of-2.new.tx.conn.now in
    let e = c.set_version.new.tx.conn.now in
    let f = c.number_of-3.new.tx.conn.now in
    let h = c.number_of-4.new.tx.conn.now in
    let clean4 = was_clean g.S.Store a f h c.in_ok-version.ensures.survives clean in
    let clean3 = was_clean g.S.Store a e f c.in_ok-after.ensures.survives clean4 in
    let clean2 = was_clean g.S.Store a d e c.in_ok-set_version.ensures.survives clean3 in
    let clean1 = was_clean g.S.Store a b d c.in_ok-before.ensures.survives clean2 in
    let in1 = c.in_ok-held.ensures.goes_on clean1 inside in
    let in2 = c.in_ok-before.ensures.goes_on clean2 in1 in
    let in3 = c.in_ok-set_version.ensures.goes_on clean3 in2 in
    let in4 = c.in_ok-after.ensures.goes_on clean4 in3 in
    let zero = c.in_ok-held.ensures.found clean1 inside has in
    let one = c.in_ok-before.ensures.found clean2 in1 zero.0 in
    let two = c.in_ok-set_version.ensures.set clean3 in2 one.0 in
    let three = c.in_ok-after.ensures.found clean4 in3 two.0 in
    let four = c.in_ok-version.ensures.found clean in4 three.0 in
    let old : IsTrue c.is_one.result = search rules in
    let same : IsTrue c.is_same_round.result = search rules in
    let new : IsTrue c.is_two.result = search rules in (
      four.0,
      marked (state g.S.Store a).now.trees (state g.S.Store b).now.trees (state g.S.Store d).now.trees (state g.S.Store e).now.trees (state g.S.Store f).now.trees (state g.S.Store h).now.trees
          c.in_ok-held.held c.in_ok-before.before c.in_ok-after.after c.in_ok-version.version zero.1 one.1 two.1 three.1 four.1 (c.is_one.ensures old) (c.is_same_round.ensures same) (c.is_two.ensures new),
    )

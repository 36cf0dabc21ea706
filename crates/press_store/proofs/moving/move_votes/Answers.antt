use Rattle.std.proofs.Common.{◌+◌, ◌∙◌, refl, subst, sym, arith}
use Rattle.sqlite.specs.Held.{state}
use Rattle.press_store.specs.Moving.{SlotMoved, VotesMoved, first_behind}
use Rattle.press_store.proofs.Onward.{keeps_itself, survives_itself, survives_both, was_clean, keeps_both, votes_none, votes_more}
use Rattle.press_store.proofs.moving.move_votes.Goals as goal

pub loop-n-init : goal.loop-n-init
loop-n-init g c =
    let s = state g.S.Store c.args.tx.now.conn.now in
    record {
      name = refl;
      kept = λ _ _. keeps_itself s;
      goes_on = λ _ inside. inside;
      moved = λ _ _ has. (has, votes_none (first_behind c.args.count) s.now.trees);
      survives = survives_itself s;
    }

pub loop-n-preserved : goal.loop-n-preserved
loop-n-preserved g c =
    let a = c.args.tx.now.conn.now in
    let b = c.loop-n.tx.conn.now in
    let d = c.move_slot.new.tx.conn.now in
    let i = c.loop-n.invariant in
    let step = c.in_ok-here.ensures in
    record {
      name = step.same_reference ∙ i.name;
      kept = keeps_both g.S.Store a b d step.survives i.kept i.goes_on step.kept;
      goes_on = λ clean inside. step.goes_on clean (i.goes_on (was_clean g.S.Store a b d step.survives clean) inside);
      moved = λ clean inside has.
          let was = was_clean g.S.Store a b d step.survives clean in
          let before = i.moved was inside has in
          let after = step.moved clean (i.goes_on was inside) before.0 in (
            after.0,
            subst (VotesMoved (first_behind c.args.count) (c.loop-n.n + 1) (state g.S.Store a).now.trees (state g.S.Store d).now.trees) (sym c.greater-greatest.ensures)
                (votes_more (first_behind c.args.count) c.loop-n.n (state g.S.Store a).now.trees (state g.S.Store b).now.trees (state g.S.Store d).now.trees c.loop-n.greatest c.in_ok-here.here (omega arith) before.1 (subst (λ slot. SlotMoved slot (state g.S.Store b).now.trees (state g.S.Store d).now.trees c.in_ok-here.here) c.slot_behind.ensures after.1)),
          );
      survives = survives_both (state g.S.Store a) (state g.S.Store b) (state g.S.Store d) i.survives step.survives;
    }

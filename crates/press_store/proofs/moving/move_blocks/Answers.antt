use Rattle.std.proofs.Common.{◌∙◌, refl}
use Rattle.sqlite.specs.Held.{state}
use Rattle.press_store.proofs.Onward.{keeps_itself, survives_itself, survives_both, was_clean, keeps_both, blocks_none, blocks_more}
use Rattle.press_store.proofs.moving.move_blocks.Goals as goal

pub loop-j-init : goal.loop-j-init
loop-j-init g c =
    let s = state g.S.Store c.args.tx.now.conn.now in
    record {
      name = refl;
      kept = λ _ _. keeps_itself s;
      goes_on = λ _ inside. inside;
      moved = λ _ _ has. (has, blocks_none s.now.trees);
      survives = survives_itself s;
    }

pub loop-j-preserved : goal.loop-j-preserved
loop-j-preserved g c =
    let a = c.args.tx.now.conn.now in
    let b = c.loop-j.tx.conn.now in
    let d = c.move_block.new.tx.conn.now in
    let i = c.loop-j.invariant in
    let step = c.in_ok-move_block.ensures in
    record {
      name = step.same_reference ∙ i.name;
      kept = keeps_both g.S.Store a b d step.survives i.kept i.goes_on step.kept;
      goes_on = λ clean inside. step.goes_on clean (i.goes_on (was_clean g.S.Store a b d step.survives clean) inside);
      moved = λ clean inside has.
          let was = was_clean g.S.Store a b d step.survives clean in
          let before = i.moved was inside has in
          let after = step.moved clean (i.goes_on was inside) before.0 in
          (after.0, λ empty. blocks_more c.loop-j.j (state g.S.Store a).now.trees (state g.S.Store b).now.trees (state g.S.Store d).now.trees (before.1 empty) after.1);
      survives = survives_both (state g.S.Store a) (state g.S.Store b) (state g.S.Store d) i.survives step.survives;
    }

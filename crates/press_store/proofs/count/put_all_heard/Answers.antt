use Rattle.std.proofs.Common.{◌≡◌, ◌≤◌, ◌<◌, ◌∙◌, length, refl, sym, subst, rules}
use Rattle.sqlite.specs.Held.{state}
use Rattle.press_store.specs.Tables.{Layout}
use Rattle.press_store.specs.Attempt.{AreTables}
use Rattle.press_store.specs.Counting.{IsWritten}
use Rattle.press_store.specs.Starts.{with_heard}
use Rattle.press_store.proofs.Counted.{hears_all, hears_none, hears_one}
use Rattle.press_store.proofs.Onward.{keeps_itself, survives_itself, survives_both, was_clean, keeps_both}
use Rattle.press_store.proofs.StartPuts.{has_with}
use Rattle.press_store.proofs.count.put_all_heard.Goals as goal

pub loop-it-init : goal.loop-it-init
loop-it-init g c =
    let s = state g.S.Store c.args.tx.now.conn.now in
    record {
      name = refl;
      kept = λ _ _. keeps_itself s;
      goes_on = λ _ inside. inside;
      acts = λ _ _ at there has. (has, hears_none c.args.heard.now s.now.trees);
      survives = survives_itself s;
    }

pub loop-it-preserved : goal.loop-it-preserved
loop-it-preserved g c =
    let a = c.args.tx.now.conn.now in
    let b = c.loop-it.tx.conn.now in
    let d = c.put_heard.new.tx.conn.now in
    let i = c.loop-it.invariant in
    let step = c.in_ok-put_heard.ensures in
    let low : c.loop-it.it-index < length c.args.heard.now = search rules in
    record {
      name = step.same_reference ∙ i.name;
      kept = keeps_both g.S.Store a b d step.survives i.kept i.goes_on step.kept;
      goes_on = λ clean inside. step.goes_on clean (i.goes_on (was_clean g.S.Store a b d step.survives clean) inside);
      acts = λ clean inside at there has.
          let was = was_clean g.S.Store a b d step.survives clean in
          let before = i.acts was inside at there has in
          let after = step.acts clean (i.goes_on was inside) at there before.0 in
          let one = subst (λ it. IsWritten (λ store. store) (with_heard it) (state g.S.Store b).now.trees (state g.S.Store d).now.trees) c.it-item.is after.1 in (
            subst (λ (m : Layout). AreTables m (state g.S.Store d).now) (has_with at there) after.0,
            hears_one c.args.heard.now c.loop-it.it-index c.it-item.result low (state g.S.Store a).now.trees (state g.S.Store b).now.trees (state g.S.Store d).now.trees before.1 one,
          );
      survives = survives_both (state g.S.Store a) (state g.S.Store b) (state g.S.Store d) i.survives step.survives;
    }

pub returns-clause-acts : goal.returns-clause-acts
returns-clause-acts g c clean inside l there has =
    let high : length c.args.heard.now ≤ c.loop-it.it-index = search rules in
    let a = state g.S.Store c.args.tx.now.conn.now in
    let b = state g.S.Store c.loop-it.tx.conn.now in
    let it = c.loop-it.invariant.acts clean inside l there has in
    (subst (λ (m : Layout). AreTables m b.now) (sym (has_with l there)) it.0, hears_all c.args.heard.now c.loop-it.it-index high a.now.trees b.now.trees it.1)

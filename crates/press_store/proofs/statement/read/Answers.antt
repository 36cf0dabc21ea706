use Rattle.std.proofs.Common.{IfOk, IfErr, subst, arith, inl}
use Rattle.sqlite.specs.Values.{bound}
use Rattle.sqlite.specs.State.{HasCleanDisk, Survives, Shown, FailsToQuery, CommitsShowing}
use Rattle.sqlite.specs.Held.{state}
use Rattle.press_store.proofs.statement.read.Goals as goal

pub returns-clause-asked : goal.returns-clause-asked
returns-clause-asked g c clean =
    let mid = state g.S.Store c.prepare.new.self in
    let new = state g.S.Store c.query_all.new.conn in
    let was : HasCleanDisk mid = omega (arith, c.query_all.ensures.survives.clean, clean) in
    let made = c.in_ok-statement.ensures.ok was in
    let params = bound c.args.params.now in
    inl (record {
      mid = c.prepare.new.self;
      same = made.1;
      quiet = c.prepare.ensures.survives;
      ok = subst (λ text. IfOk c.query_all.result (λ rows. Shown text params mid new rows.items)) made.0 (c.query_all.ensures.ok clean);
      err = subst (λ text. IfErr c.query_all.result (FailsToQuery text params mid new)) made.0 (c.query_all.ensures.err clean);
      left = subst (λ text. Survives mid new (CommitsShowing text params mid)) made.0 c.query_all.ensures.survives;
    })

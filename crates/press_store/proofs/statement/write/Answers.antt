use Rattle.std.proofs.Common.{subst, arith, inl}
use Rattle.sqlite.specs.Values.{bound}
use Rattle.sqlite.specs.State.{HasCleanDisk, Survives, Executes, CommitsBy}
use Rattle.sqlite.specs.Held.{state}
use Rattle.press_store.proofs.statement.write.Goals as goal

pub returns-clause-ran : goal.returns-clause-ran
returns-clause-ran g c clean =
    let old = state g.S.Store c.args.conn.now in
    let mid = state g.S.Store c.prepare.new.self in
    let new = state g.S.Store c.execute.new.conn in
    let was : HasCleanDisk mid = omega (arith, c.execute.ensures.survives.clean, clean) in
    let made = c.in_ok-statement.ensures.ok was in
    let params = bound c.args.params.now in
    inl (record {
      mid = c.prepare.new.self;
      same = made.1;
      quiet = c.prepare.ensures.survives;
      ran = subst (λ text. Executes text params mid new c.execute.result) made.0 (c.execute.ensures.runs clean);
      left = subst (λ text. Survives mid new (CommitsBy text params mid)) made.0 c.execute.ensures.survives;
    })

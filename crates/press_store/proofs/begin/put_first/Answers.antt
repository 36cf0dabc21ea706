use Rattle.std.proofs.Common.{subst, arith}
use Rattle.sqlite.specs.State.{HasCleanDisk}
use Rattle.sqlite.specs.Held.{state}
use Rattle.press_store.specs.Tables.{Layout, with_starts}
use Rattle.press_store.specs.Attempt.{AreTables}
use Rattle.press_store.specs.Counting.{first_mark}
use Rattle.press_store.specs.Starts.{with_mark}
use Rattle.press_store.proofs.Counted.{on_ok, there_with, written_then}
use Rattle.press_store.proofs.StartPuts.{has_with}
use Rattle.press_store.proofs.begin.put_first.Goals as goal

pub returns-clause-acts : goal.returns-clause-acts
returns-clause-acts g c clean inside l lacks has =
    let a = state g.S.Store c.args.tx.now.conn.now in
    let b = state g.S.Store c.add_tables.new.tx.conn.now in
    let e = state g.S.Store c.put_mark.new.tx.conn.now in
    let was : HasCleanDisk b = omega (arith, c.put_mark.ensures.survives.clean, clean) in
    let one = c.in_ok-add_tables.ensures.acts was inside l lacks has in
    let there = there_with l in
    on_ok c.put_mark.result
    (λ two. (subst (λ (m : Layout). AreTables m e.now) (has_with (with_starts l) there) two.0, written_then (λ store. store) (λ store. store) (λ map. map) (with_mark (first_mark c.args.start)) a.now.trees b.now.trees e.now.trees one.1 (rw c.first_mark.ensures at two.1)))
    (c.put_mark.ensures.acts clean (c.in_ok-add_tables.ensures.goes_on was inside) (with_starts l) there one.0)

use Rattle.std.proofs.Common.{subst, arith}
use Rattle.sqlite.specs.State.{HasCleanDisk}
use Rattle.sqlite.specs.Held.{state}
use Rattle.press_store.specs.Tables.{Layout, with_starts}
use Rattle.press_store.specs.Attempt.{AreTables}
use Rattle.press_store.specs.Noted.{id_of}
use Rattle.press_store.specs.Starts.{with_note}
use Rattle.press_store.proofs.Counted.{on_ok, there_with, written_then}
use Rattle.press_store.proofs.StartPuts.{has_with}
use Rattle.press_store.proofs.noting.put_first.Goals as goal

pub returns-clause-acts : goal.returns-clause-acts
returns-clause-acts g c clean inside l lacks has =
    let a = state g.S.Store c.args.tx.now.conn.now in
    let b = state g.S.Store c.add_tables.new.tx.conn.now in
    let e = state g.S.Store c.put_row.new.tx.conn.now in
    let was : HasCleanDisk b = omega (arith, c.put_row.ensures.survives.clean, clean) in
    let one = c.in_ok-add_tables.ensures.acts was inside l lacks has in
    let there = there_with l in
    on_ok c.put_row.result
    (λ two. (subst (λ (m : Layout). AreTables m e.now) (has_with (with_starts l) there) two.0, written_then (λ store. store) (λ store. store) (λ map. map) (with_note (id_of c.args.which) c.args.bytes.now) a.now.trees b.now.trees e.now.trees one.1 two.1))
    (c.put_row.ensures.acts clean (c.in_ok-add_tables.ensures.goes_on was inside) (with_starts l) there one.0)

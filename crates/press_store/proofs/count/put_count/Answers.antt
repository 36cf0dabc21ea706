use Rattle.std.proofs.Common.{◌≡◌, subst, arith, rules}
use Rattle.sqlite.specs.State.{HasCleanDisk}
use Rattle.sqlite.specs.Held.{state}
use Rattle.press_store.specs.Tables.{Layout}
use Rattle.press_store.specs.Starts.{with_all_heard, with_mark}
use Rattle.press_store.specs.Counting.{IsWritten}
use Rattle.press_store.specs.Attempt.{AreTables}
use Rattle.press_store.proofs.Counted.{on_ok, written_then}
use Rattle.press_store.proofs.StartPuts.{has_with}
use Rattle.press_store.proofs.count.put_count.Goals as goal

pub returns-clause-acts : goal.returns-clause-acts
returns-clause-acts g c clean inside l there has =
    let a = state g.S.Store c.args.tx.now.conn.now in
    let b = state g.S.Store c.put_mark.new.tx.conn.now in
    let e = state g.S.Store c.put_all_heard.new.tx.conn.now in
    let count = c.args.count.now in
    let was : HasCleanDisk b = omega (arith, c.put_all_heard.ensures.survives.clean, clean) in
    let one = c.in_ok-put_mark.ensures.acts was inside l there has in
    let mid = subst (λ (m : Layout). AreTables m b.now) (has_with l there) one.0 in
    let seen : c.deref.result.now ≡ count.heard.items = search rules in
    on_ok c.put_all_heard.result
    (λ two. (two.0, written_then (λ store. store) (λ store. store) (with_mark count.mark) (with_all_heard count.heard.items) a.now.trees b.now.trees e.now.trees one.1 (subst (λ heard. IsWritten (λ store. store) (with_all_heard heard) b.now.trees e.now.trees) seen two.1)))
    (c.put_all_heard.ensures.acts clean (c.in_ok-put_mark.ensures.goes_on was inside) l there mid)

use Rattle.std.proofs.Common.{arith}
use Rattle.sqlite.specs.State.{HasCleanDisk}
use Rattle.sqlite.specs.Held.{state}
use Rattle.press_acceptor.specs.StoreMap.{with_vote}
use Rattle.press_store.specs.Counting.{counted}
use Rattle.press_store.proofs.Counted.{counted_then, on_ok}
use Rattle.press_store.proofs.counting.put_vote_counted.Goals as goal

pub returns-clause-acts : goal.returns-clause-acts
returns-clause-acts g c clean inside l there has =
    let a = state g.S.Store c.args.tx.now.conn.now in
    let b = state g.S.Store c.put_both.new.tx.conn.now in
    let e = state g.S.Store c.put_count.new.tx.conn.now in
    let count = c.args.count.now in
    let was : HasCleanDisk b = omega (arith, c.put_count.ensures.survives.clean, clean) in
    let one = c.in_ok-put_both.ensures.turns was inside l has in
    let same = c.in_ok-put_both.ensures.spares was inside l has in
    on_ok c.put_count.result (λ two. (two.0, counted_then (λ store. with_vote store c.args.slot c.args.vote.now) (counted count.mark count.heard.items) a.now.trees b.now.trees e.now.trees one.1 same two.1))
    (c.put_count.ensures.acts clean (c.in_ok-put_both.ensures.goes_on was inside) l there one.0)

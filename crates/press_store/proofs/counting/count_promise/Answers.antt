use Rattle.std.proofs.Common.{arith}
use Rattle.sqlite.specs.Held.{state}
use Rattle.press_acceptor.specs.StoreMap.{with_promise}
use Rattle.press_store.specs.Counting.{IsCounted, counted}
use Rattle.press_store.specs.Tables.{HasStarts}
use Rattle.press_store.proofs.Counted.{there_by, transacted}
use Rattle.press_store.proofs.counting.count_promise.Goals as goal

pub returns-clause-counts : goal.returns-clause-counts
returns-clause-counts g c clean ready known =
    let old = state g.S.Store c.args.conn.now in
    let count = c.args.count.now in
    let r = ready (omega (arith, c.commit_promise.ensures.survives.clean, clean)) in
    transacted g.S.Store g.met.S.Store.settled HasStarts (IsCounted (λ store. with_promise store c.args.first c.args.ballot) (counted count.mark count.heard.items)) c.args.conn.now c.commit_promise.new.conn
    r (there_by old count.mark.start r known) clean c.commit_promise.ensures.ended c.commit_promise.ensures.survives c.commit_promise.result c.commit_promise.ensures.up c.commit_promise.ensures.commits c.commit_promise.ensures.undone

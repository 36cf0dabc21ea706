use Rattle.std.proofs.Common.{arith}
use Rattle.sqlite.specs.Held.{state}
use Rattle.press_acceptor.specs.StoreMap.{with_round}
use Rattle.press_store.specs.Counting.{IsCounted, counted}
use Rattle.press_store.specs.Tables.{HasStarts}
use Rattle.press_store.proofs.Counted.{there_by, transacted}
use Rattle.press_store.proofs.counting.count_round.Goals as goal

pub returns-clause-counts : goal.returns-clause-counts
returns-clause-counts g c clean ready known =
    let old = state g.S.Store c.args.conn.now in
    let count = c.args.count.now in
    let r = ready (omega (arith, c.commit_round.ensures.survives.clean, clean)) in
    transacted g.S.Store g.met.S.Store.settled HasStarts (IsCounted (λ store. with_round store c.args.round) (counted count.mark count.heard.items)) c.args.conn.now c.commit_round.new.conn
    r (there_by old count.mark.start r known) clean c.commit_round.ensures.ended c.commit_round.ensures.survives c.commit_round.result c.commit_round.ensures.up c.commit_round.ensures.commits c.commit_round.ensures.undone

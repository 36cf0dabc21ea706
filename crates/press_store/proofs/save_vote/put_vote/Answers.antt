use Rattle.std.proofs.Common.{arith}
use Rattle.press_acceptor.specs.StoreMap.{with_vote}
use Rattle.press_store.proofs.Turned.{committed}
use Rattle.press_store.proofs.save_vote.put_vote.Goals as goal

pub returns-clause-saves : goal.returns-clause-saves
returns-clause-saves g c clean ready =
    committed g.S.Store g.met.S.Store.settled (λ store. with_vote store c.args.slot c.args.vote.now) c.args.conn.now c.commit_both.new.conn (ready (omega (arith, c.commit_both.ensures.survives.clean, clean))) clean c.commit_both.ensures.ended
    c.commit_both.ensures.survives c.commit_both.result c.commit_both.ensures.up c.commit_both.ensures.commits c.commit_both.ensures.undone

pub returns-clause-ready : goal.returns-clause-ready
returns-clause-ready g c ready clean = (returns-clause-saves g c clean ready).ready

use Rattle.std.proofs.Common.{subst}
use Rattle.sqlite.specs.Held.{state}
use Rattle.press_store.specs.Moving.{BallotPut, VotesMoved, first_behind}
use Rattle.press_store.proofs.Onward.{was_clean, block_with, block_without}
use Rattle.press_store.proofs.moving.move_block.Goals as goal

pub returns-in_ok-raise_promise-in-Some-clause-moved : goal.returns-in_ok-raise_promise-in-Some-clause-moved
returns-in_ok-raise_promise-in-Some-clause-moved g c clean inside has =
    let a = c.args.tx.now.conn.now in
    let b = c.move_votes.new.tx.conn.now in
    let d = c.raise_promise.new.tx.conn.now in
    let one = c.in_ok-ballot.ensures in
    let two = c.in_ok-raise_promise-in-Some.ensures in
    let was = was_clean g.S.Store a b d two.survives clean in
    let before = one.moved was inside has in
    let after = two.puts clean (one.goes_on was inside) before.0 in
    (after.0, block_with (first_behind c.args.count) c.in-Some.ballot (state g.S.Store a).now.trees (state g.S.Store b).now.trees (state g.S.Store d).now.trees (subst (VotesMoved (first_behind c.args.count) 16 (state g.S.Store a).now.trees (state g.S.Store b).now.trees) c.in-Some.is before.1) (subst (λ first. BallotPut first c.in-Some.ballot (state g.S.Store b).now.trees (state g.S.Store d).now.trees) c.first_behind.ensures.number after.1))

pub returns-in-None-clause-moved : goal.returns-in-None-clause-moved
returns-in-None-clause-moved g c clean inside has =
    let a = c.args.tx.now.conn.now in
    let b = c.move_votes.new.tx.conn.now in
    let before = c.in_ok-ballot.ensures.moved clean inside has in
    (before.0, block_without (first_behind c.args.count) (state g.S.Store a).now.trees (state g.S.Store b).now.trees (subst (VotesMoved (first_behind c.args.count) 16 (state g.S.Store a).now.trees (state g.S.Store b).now.trees) c.in-None.is before.1))

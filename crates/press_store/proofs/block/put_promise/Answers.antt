use Rattle.press_wire.specs.Held.{IsBallot}
use Rattle.press_acceptor.specs.StoreMap.{with_promise}
use Rattle.press_store.specs.Tables.{save_promise_text}
use Rattle.press_store.proofs.Puts.{promise_params, promise_put}
use Rattle.press_store.proofs.Texts.{promise_insert, save_promise_means}
use Rattle.press_store.proofs.Saved.{saves}
use Rattle.press_store.proofs.block.put_promise.Goals as goal

pub returns-clause-saves : goal.returns-clause-saves
returns-clause-saves g c clean ready =
    let ballot = c.args.ballot in
    let first = c.args.first in
    let i = c.slot_value.ensures.range in
    let h : IsBallot ballot = (c.round_value.ensures.range, c.node_value.ensures.range) in
    saves g.S.Store g.met.S.Store.settled save_promise_text (promise_params first ballot i c.requires h) promise_insert save_promise_means
    (λ l a b text count ran. ran) (λ l e. absurd (cc)) (λ l name e. absurd (cc)) (λ store. with_promise store first ballot)
    (λ l limit mode now after tally text has does. promise_put first ballot i c.requires h l limit mode now after tally text has does)
    c.args.conn.now c.write.new.conn c.write.result clean ready (rw (c.slot_value.ensures.value, c.round_value.ensures.value, c.node_value.ensures.value) at (c.write.ensures.ran clean))

pub returns-clause-ready : goal.returns-clause-ready
returns-clause-ready g c ready clean = (returns-clause-saves g c clean ready).ready

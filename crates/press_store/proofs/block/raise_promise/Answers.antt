use Rattle.sqlite.specs.Held.{state}
use Rattle.press_store.proofs.Moves.{ballot_moved}
use Rattle.press_store.proofs.Puts.{promise_done, promise_spares}
use Rattle.press_store.proofs.block.raise_promise.Goals as goal

pub returns-clause-turns : goal.returns-clause-turns
returns-clause-turns g c clean inside l has =
    promise_done (state g.S.Store c.args.tx.now.conn.now) (state g.S.Store c.execute.new.self.conn.now) c.args.first c.args.ballot c.execute.result c.slot_value.ensures.range c.requires
    (c.round_value.ensures.range, c.node_value.ensures.range) l has
    (rw (c.slot_value.ensures.value, c.round_value.ensures.value, c.node_value.ensures.value) at (c.execute.ensures.runs clean inside))

pub returns-clause-puts : goal.returns-clause-puts
returns-clause-puts g c clean inside has =
    ballot_moved (state g.S.Store c.args.tx.now.conn.now) (state g.S.Store c.execute.new.self.conn.now) c.args.first c.args.ballot c.execute.result (c.round_value.ensures.range, c.node_value.ensures.range) has
    (rw (c.slot_value.ensures.value, c.round_value.ensures.value, c.node_value.ensures.value) at (c.execute.ensures.runs clean inside))

pub returns-clause-spares : goal.returns-clause-spares
returns-clause-spares g c clean inside l has =
    promise_spares (state g.S.Store c.args.tx.now.conn.now) (state g.S.Store c.execute.new.self.conn.now) c.args.first c.args.ballot c.execute.result c.slot_value.ensures.range c.requires
    (c.round_value.ensures.range, c.node_value.ensures.range) l has
    (rw (c.slot_value.ensures.value, c.round_value.ensures.value, c.node_value.ensures.value) at (c.execute.ensures.runs clean inside))

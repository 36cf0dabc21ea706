use Rattle.sqlite.specs.Held.{state}
use Rattle.press_store.proofs.Moves.{vote_moved}
use Rattle.press_store.proofs.Puts.{vote_done, vote_spares}
use Rattle.press_store.proofs.vote.add_vote.Goals as goal

pub returns-clause-turns : goal.returns-clause-turns
returns-clause-turns g c clean inside l has =
    vote_done (state g.S.Store c.args.tx.now.conn.now) (state g.S.Store c.execute.new.self.conn.now) c.args.slot c.args.vote.now c.args.bytes.now c.execute.result c.slot_value.ensures.range
    (c.round_value.ensures.range, c.node_value.ensures.range) c.requires.reads l has
    (rw (c.slot_value.ensures.value, c.round_value.ensures.value, c.node_value.ensures.value, c.bytes_value.ensures) at (c.execute.ensures.runs clean inside))

pub returns-clause-puts : goal.returns-clause-puts
returns-clause-puts g c clean inside has =
    vote_moved (state g.S.Store c.args.tx.now.conn.now) (state g.S.Store c.execute.new.self.conn.now) c.args.slot c.args.vote.now c.args.bytes.now c.execute.result (c.round_value.ensures.range, c.node_value.ensures.range) c.requires.reads has
    (rw (c.slot_value.ensures.value, c.round_value.ensures.value, c.node_value.ensures.value, c.bytes_value.ensures) at (c.execute.ensures.runs clean inside))

pub returns-clause-spares : goal.returns-clause-spares
returns-clause-spares g c clean inside l has =
    vote_spares (state g.S.Store c.args.tx.now.conn.now) (state g.S.Store c.execute.new.self.conn.now) c.args.slot c.args.vote.now c.args.bytes.now c.execute.result c.slot_value.ensures.range
    (c.round_value.ensures.range, c.node_value.ensures.range) c.requires.reads l has
    (rw (c.slot_value.ensures.value, c.round_value.ensures.value, c.node_value.ensures.value, c.bytes_value.ensures) at (c.execute.ensures.runs clean inside))

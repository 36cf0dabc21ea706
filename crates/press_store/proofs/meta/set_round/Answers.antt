use Rattle.std.specs.Prelude.{◌^◌}
use Rattle.std.proofs.Common.{◌≤◌, Ok, Err, Result}
use Rattle.std.specs.Prelude.{OnOk}
use Rattle.sqlite.specs.Held.{state}
use Rattle.press_store.proofs.Counted.{on_ok}
use Rattle.press_store.proofs.Rounds.{round_done}
use Rattle.press_store.proofs.meta.set_round.Goals as goal

pub returns-clause-turns : goal.returns-clause-turns
returns-clause-turns g c clean inside l has =
    let small : c.args.round ≤ 2 ^ 40 = c.round_value.ensures.range.1 in
    on_ok c.execute.result (λ it. (it.0, it.1))
    (round_done (state g.S.Store c.args.tx.now.conn.now) (state g.S.Store c.execute.new.self.conn.now) c.args.round c.execute.result small l has (rw c.round_value.ensures.value at (c.execute.ensures.runs clean inside)))

pub returns-clause-spares : goal.returns-clause-spares
returns-clause-spares g c clean inside l has =
    let small : c.args.round ≤ 2 ^ 40 = c.round_value.ensures.range.1 in
    on_ok c.execute.result (λ it. it.2)
    (round_done (state g.S.Store c.args.tx.now.conn.now) (state g.S.Store c.execute.new.self.conn.now) c.args.round c.execute.result small l has (rw c.round_value.ensures.value at (c.execute.ensures.runs clean inside)))

use Rattle.std.proofs.Common.{arith}
use Rattle.sqlite.specs.State.{HasCleanDisk}
use Rattle.sqlite.specs.Held.{state}
use Rattle.press_store.proofs.Ties.{looked_then}
use Rattle.press_store.proofs.tying.tie_file.Goals as goal

pub returns-in-Err-clause-looks : goal.returns-in-Err-clause-looks
returns-in-Err-clause-looks g c clean ready =
    let mid = state g.S.Store c.answer.new.conn in
    let was : HasCleanDisk mid = omega (arith, c.put_owner.ensures.clean, clean) in
    looked_then (state g.S.Store c.args.conn.now) mid (state g.S.Store c.put_owner.new.conn) (c.in_ok-found.ensures.looks was ready) (c.put_owner.ensures.looks clean (c.in_ok-found.ensures.ready ready))

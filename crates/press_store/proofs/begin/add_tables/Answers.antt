use Rattle.std.proofs.Common.{arith}
use Rattle.sqlite.specs.State.{HasCleanDisk}
use Rattle.sqlite.specs.Held.{state}
use Rattle.press_store.proofs.StartTables.{starts_added}
use Rattle.press_store.proofs.begin.add_tables.Goals as goal

pub returns-clause-acts : goal.returns-clause-acts
returns-clause-acts g c clean inside l lacks has =
    let old = state g.S.Store c.args.tx.now.conn.now in
    let one = state g.S.Store c.execute.new.self.conn.now in
    let two = state g.S.Store c.execute-2.new.self.conn.now in
    let new = state g.S.Store c.execute-3.new.self.conn.now in
    let late : HasCleanDisk two = omega (arith, c.execute-3.ensures.survives.clean, clean) in
    let early : HasCleanDisk one = omega (arith, c.in_ok-execute-2.ensures.survives.clean, late) in
    let first = c.in_ok-execute.ensures.runs early inside in
    let second = c.in_ok-execute-2.ensures.runs late first.1.mode in
    starts_added old one two new c.in_ok-execute.field-0 c.in_ok-execute-2.field-0 c.execute-3.result l lacks has first second (c.execute-3.ensures.runs clean second.1.mode)

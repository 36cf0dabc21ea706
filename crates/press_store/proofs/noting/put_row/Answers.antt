use Rattle.sqlite.specs.Held.{state}
use Rattle.press_store.specs.Noted.{id_of, name_of}
use Rattle.press_store.proofs.StartPuts.{note_done, note_known}
use Rattle.press_store.proofs.noting.put_row.Goals as goal

pub returns-clause-acts : goal.returns-clause-acts
returns-clause-acts g c clean inside l there has =
    let which = c.args.which in
    note_done (state g.S.Store c.args.tx.now.conn.now) (state g.S.Store c.execute.new.self.conn.now) (id_of which) (name_of which) c.args.bytes.now c.execute.result (note_known which) l there has
    (rw (c.id_value.ensures, c.noted_name.ensures, c.bytes_value.ensures) at (c.execute.ensures.runs clean inside))

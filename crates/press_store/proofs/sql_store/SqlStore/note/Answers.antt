use Rattle.std.proofs.Common.{subst}
use Rattle.sqlite.specs.Held.{state}
use Rattle.press_store.specs.Attempt.{Looked}
use Rattle.press_store.specs.Kept.{Kept}
use Rattle.press_store.proofs.Told.{looked_told}
use Rattle.press_store.proofs.sql_store.SqlStore.note.Goals as goal

pub returns-in-Ok-Some-clause-looks : goal.returns-in-Ok-Some-clause-looks
returns-in-Ok-Some-clause-looks g c honest =
    looked_told g.D.Store c.args.self.now (record { conn = c.read_note.new.conn; faults = c.self.inside.faults; is_ours = c.self.inside.is_ours; mark = c.self.inside.mark })
    (subst (λ (k : Kept _). Looked (state g.D.Store k.conn) (state g.D.Store c.read_note.new.conn)) c.self.view_is (c.read_note.ensures.looks honest.0 (c.self.invariant.1 honest.1).0))

pub returns-in-Ok-None-clause-looks : goal.returns-in-Ok-None-clause-looks
returns-in-Ok-None-clause-looks g c honest =
    looked_told g.D.Store c.args.self.now (record { conn = c.read_note.new.conn; faults = c.self.inside.faults; is_ours = c.self.inside.is_ours; mark = c.self.inside.mark })
    (subst (λ (k : Kept _). Looked (state g.D.Store k.conn) (state g.D.Store c.read_note.new.conn)) c.self.view_is (c.read_note.ensures.looks honest.0 (c.self.invariant.1 honest.1).0))

pub returns-in-Err-clause-looks : goal.returns-in-Err-clause-looks
returns-in-Err-clause-looks g c honest =
    looked_told g.D.Store c.args.self.now (record { conn = c.read_note.new.conn; faults = c.count_fault.new.faults; is_ours = c.self.inside.is_ours; mark = c.self.inside.mark })
    (subst (λ (k : Kept _). Looked (state g.D.Store k.conn) (state g.D.Store c.read_note.new.conn)) c.self.view_is (c.read_note.ensures.looks honest.0 (c.self.invariant.1 honest.1).0))

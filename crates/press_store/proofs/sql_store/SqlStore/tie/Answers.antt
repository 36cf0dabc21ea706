use Rattle.std.proofs.Common.{◌∙◌, subst}
use Rattle.sqlite.specs.Held.{state}
use Rattle.press_store.specs.Attempt.{Looked}
use Rattle.press_store.specs.Kept.{Kept}
use Rattle.press_store.specs.Tying.{IsFree, IsUntouched, LeavesTied, Same, VersionStays}
use Rattle.press_store.proofs.Told.{looked_told}
use Rattle.press_store.proofs.sql_store.SqlStore.tie.Goals as goal

pub returns-in-Ok-Some-clause-looks : goal.returns-in-Ok-Some-clause-looks
returns-in-Ok-Some-clause-looks g c honest =
    looked_told g.D.Store c.args.self.now (record { conn = c.tie_file.new.conn; faults = c.self.inside.faults; is_ours = c.self.inside.is_ours; mark = c.self.inside.mark })
    (subst (λ (k : Kept _). Looked (state g.D.Store k.conn) (state g.D.Store c.tie_file.new.conn)) c.self.view_is (c.tie_file.ensures.looks honest.0 (c.self.invariant.1 honest.1).0))

pub returns-in-Ok-Some-clause-untouched : goal.returns-in-Ok-Some-clause-untouched
returns-in-Ok-Some-clause-untouched g c honest = subst (λ (k : Kept _). ¬ IsFree (state g.D.Store k.conn) c.args.asked → IsUntouched (state g.D.Store k.conn) (state g.D.Store c.tie_file.new.conn)) c.self.view_is (c.tie_file.ensures.spares honest.0 (c.self.invariant.1 honest.1).0)

pub returns-in-Ok-Some-clause-stopped : goal.returns-in-Ok-Some-clause-stopped
returns-in-Ok-Some-clause-stopped g c honest = subst (λ (k : Kept _). LeavesTied c.args.asked (state g.D.Store k.conn) (state g.D.Store c.tie_file.new.conn)) c.self.view_is (c.tie_file.ensures.stops honest.0 (c.self.invariant.1 honest.1).0)

pub returns-in-Ok-Some-clause-version : goal.returns-in-Ok-Some-clause-version
returns-in-Ok-Some-clause-version g c honest = subst (λ (k : Kept _). VersionStays (state g.D.Store k.conn) (state g.D.Store c.tie_file.new.conn)) c.self.view_is (c.tie_file.ensures.version honest.0 (c.self.invariant.1 honest.1).0)

pub returns-in-Ok-None-clause-looks : goal.returns-in-Ok-None-clause-looks
returns-in-Ok-None-clause-looks g c honest =
    looked_told g.D.Store c.args.self.now (record { conn = c.tie_file.new.conn; faults = c.self.inside.faults; is_ours = c.self.inside.is_ours; mark = c.self.inside.mark })
    (subst (λ (k : Kept _). Looked (state g.D.Store k.conn) (state g.D.Store c.tie_file.new.conn)) c.self.view_is (c.tie_file.ensures.looks honest.0 (c.self.invariant.1 honest.1).0))

pub returns-in-Ok-None-clause-untouched : goal.returns-in-Ok-None-clause-untouched
returns-in-Ok-None-clause-untouched g c honest = subst (λ (k : Kept _). ¬ IsFree (state g.D.Store k.conn) c.args.asked → IsUntouched (state g.D.Store k.conn) (state g.D.Store c.tie_file.new.conn)) c.self.view_is (c.tie_file.ensures.spares honest.0 (c.self.invariant.1 honest.1).0)

pub returns-in-Ok-None-clause-stopped : goal.returns-in-Ok-None-clause-stopped
returns-in-Ok-None-clause-stopped g c honest = subst (λ (k : Kept _). LeavesTied c.args.asked (state g.D.Store k.conn) (state g.D.Store c.tie_file.new.conn)) c.self.view_is (c.tie_file.ensures.stops honest.0 (c.self.invariant.1 honest.1).0)

pub returns-in-Ok-None-clause-version : goal.returns-in-Ok-None-clause-version
returns-in-Ok-None-clause-version g c honest = subst (λ (k : Kept _). VersionStays (state g.D.Store k.conn) (state g.D.Store c.tie_file.new.conn)) c.self.view_is (c.tie_file.ensures.version honest.0 (c.self.invariant.1 honest.1).0)

pub returns-in-Err-clause-looks : goal.returns-in-Err-clause-looks
returns-in-Err-clause-looks g c honest =
    looked_told g.D.Store c.args.self.now (record { conn = c.tie_file.new.conn; faults = c.count_fault.new.faults; is_ours = c.self.inside.is_ours; mark = c.self.inside.mark })
    (subst (λ (k : Kept _). Looked (state g.D.Store k.conn) (state g.D.Store c.tie_file.new.conn)) c.self.view_is (c.tie_file.ensures.looks honest.0 (c.self.invariant.1 honest.1).0))

pub returns-in-Err-clause-untouched : goal.returns-in-Err-clause-untouched
returns-in-Err-clause-untouched g c honest = subst (λ (k : Kept _). ¬ IsFree (state g.D.Store k.conn) c.args.asked → IsUntouched (state g.D.Store k.conn) (state g.D.Store c.tie_file.new.conn)) c.self.view_is (c.tie_file.ensures.spares honest.0 (c.self.invariant.1 honest.1).0)

pub returns-in-Err-clause-stopped : goal.returns-in-Err-clause-stopped
returns-in-Err-clause-stopped g c honest = subst (λ (k : Kept _). LeavesTied c.args.asked (state g.D.Store k.conn) (state g.D.Store c.tie_file.new.conn)) c.self.view_is (c.tie_file.ensures.stops honest.0 (c.self.invariant.1 honest.1).0)

pub returns-in-Err-clause-version : goal.returns-in-Err-clause-version
returns-in-Err-clause-version g c honest = subst (λ (k : Kept _). VersionStays (state g.D.Store k.conn) (state g.D.Store c.tie_file.new.conn)) c.self.view_is (c.tie_file.ensures.version honest.0 (c.self.invariant.1 honest.1).0)

pub returns-in-Ok-Some-clause-opened : goal.returns-in-Ok-Some-clause-opened
returns-in-Ok-Some-clause-opened g c honest = c.in-Ok-Some.ensures.opened honest.0 (c.self.invariant.1 honest.1).0

pub returns-in-Ok-None-clause-failed : goal.returns-in-Ok-None-clause-failed
returns-in-Ok-None-clause-failed g c honest =
    subst (λ (k : Kept _). Same (state g.D.Store k.conn) (state g.D.Store c.tie_file.new.conn)) c.self.view_is (c.tie_file.ensures.spares honest.0 (c.self.invariant.1 honest.1).0 (λ free. absurd (let e = (c.in-Ok-None.ensures.answer honest.0 (c.self.invariant.1 honest.1).0).1 ∙ free in cc))).same

pub returns-in-Err-clause-failed : goal.returns-in-Err-clause-failed
returns-in-Err-clause-failed g c honest = subst (λ (k : Kept _). Same (state g.D.Store k.conn) (state g.D.Store c.tie_file.new.conn)) c.self.view_is (c.in-Err.ensures.fails honest.0 (c.self.invariant.1 honest.1).0)

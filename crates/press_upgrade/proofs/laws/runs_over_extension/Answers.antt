use Rattle.std.proofs.Common.{sym, subst, Option, Some, None}
use Rattle.std.specs.Prelude.{IfSome}
use Rattle.press_callbacks.specs.Kits.{KitView}
use Rattle.press_run.specs.Links.{Changes}
use Rattle.press_run.specs.Outcome.{job_meaning}
use Rattle.press_run.specs.Run.{Answer, State}
use Rattle.press_run.specs.declared.job.Job.{Job}
use Rattle.press_run.proofs.Profiled.{Alike, Any}
use Rattle.press_upgrade.specs.Extends.{Extends, IsWhole, Knows, KnowsTables}
use Rattle.press_upgrade.proofs.Known.{same_scripts}
use Rattle.press_upgrade.proofs.Runs.{FineAnswer, job_alike}
use Rattle.press_upgrade.proofs.laws.runs_over_extension.Goals as goal

alike : (old new : KitView) (changes : Changes) (job : Job) (s : State) → IsWhole old → Extends old new → KnowsTables old s → Alike (FineAnswer (Knows old) Any) (job_meaning changes old.scripts job s) (job_meaning changes new.scripts job s)
alike old new changes job s whole extends known =
    job_alike (Knows old) Any changes (λ site e stays q. q) old.scripts new.scripts (same_scripts old new whole extends) job s (known.0, known.1, tt)

known_too : (old : KitView) (o : Option Answer) → IfSome o (FineAnswer (Knows old) Any) → IfSome o (λ a. KnowsTables old a.state)
known_too old None f = tt
known_too old (Some a) f = (f.0, f.1)

pub returns-clause-same : goal.returns-clause-same
returns-clause-same c = λ old new changes job s whole extends known. sym (alike old new changes job s whole extends known).0

pub returns-clause-known : goal.returns-clause-known
returns-clause-known c = λ old new changes job s whole extends known.
    let a = alike old new changes job s whole extends known in
    subst (λ o. IfSome o (λ b. KnowsTables old b.state)) a.0 (known_too old (job_meaning changes old.scripts job s) a.1)

use Rattle.press_run.proofs.Profiled.{job_alike}
use Rattle.press_run.proofs.earlier.runs_as_before.Goals as goal

pub returns-clause-same : goal.returns-clause-same
returns-clause-same c = λ changes scripts job s keeps first. (job_alike changes keeps scripts job s first).0

pub returns-clause-profile : goal.returns-clause-profile
returns-clause-profile c = λ changes scripts job s keeps first. (job_alike changes keeps scripts job s first).1

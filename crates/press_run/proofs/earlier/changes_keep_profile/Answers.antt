use Rattle.press_run.proofs.Profiled.{effects_keep, reads_keep}
use Rattle.press_run.proofs.earlier.changes_keep_profile.Goals as goal

pub returns-clause-effects : goal.returns-clause-effects
returns-clause-effects c = effects_keep

pub returns-clause-reads : goal.returns-clause-reads
returns-clause-reads c = reads_keep

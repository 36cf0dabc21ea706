use Rattle.press_apply.proofs.Profiled.{folds_alike}
use Rattle.press_apply.proofs.earlier.folds_as_before.Goals as goal

pub returns-clause-same : goal.returns-clause-same
returns-clause-same c = λ kit values none. (folds_alike c.changes_keep_profile.ensures.effects c.runs_as_before.ensures.same c.runs_as_before.ensures.profile kit values none).0

pub returns-clause-profile : goal.returns-clause-profile
returns-clause-profile c = λ kit values none. (folds_alike c.changes_keep_profile.ensures.effects c.runs_as_before.ensures.same c.runs_as_before.ensures.profile kit values none).1

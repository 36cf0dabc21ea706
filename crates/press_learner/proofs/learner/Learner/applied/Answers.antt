use Rattle.std.proofs.Common.{subst}
use Rattle.press_learner.specs.Kept.{IsWindow}
use Rattle.press_learner.proofs.learner.Learner.applied.Goals as goal

pub returns-clause-window : goal.returns-clause-window
returns-clause-window c = subst IsWindow c.self.view_is c.self.invariant.2

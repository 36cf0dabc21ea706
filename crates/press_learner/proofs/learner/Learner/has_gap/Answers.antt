use Rattle.std.proofs.Common.{subst, sym, ◌∙◌}
use Rattle.press_learner.specs.Kept.{IsWindow}
use Rattle.press_learner.proofs.Views.{gap_seen}
use Rattle.press_learner.proofs.Window.{gap_before_last}
use Rattle.press_learner.proofs.learner.Learner.has_gap.Goals as goal

pub returns-clause-value : goal.returns-clause-value
returns-clause-value c =
    gap_seen c.self.inside.members c.self.inside.applied c.self.inside.ring.items c.args.self.now c.self.view_is c.self.invariant.3 c.deref.result.now c.deref.ensures.value c.has_other.result c.has_other.ensures

pub returns-clause-last : goal.returns-clause-last
returns-clause-last c = λ h.
    let is = gap_seen c.self.inside.members c.self.inside.applied c.self.inside.ring.items c.args.self.now c.self.view_is c.self.invariant.3 c.deref.result.now c.deref.ensures.value c.has_other.result c.has_other.ensures in
    gap_before_last c.args.self.now (subst IsWindow c.self.view_is c.self.invariant.2) (sym is ∙ h)

use Rattle.std.proofs.Common.{◌∙◌}
use Rattle.press_learner.proofs.Views.{none_seen, vote_seen}
use Rattle.press_learner.proofs.learner.Learner.vote.Goals as goal

pub returns-then-not-has_place : goal.returns-then-not-has_place
returns-then-not-has_place c =
    none_seen c.self.inside.members c.self.inside.applied c.self.inside.ring.items c.args.self.now c.self.view_is c.args.slot c.args.member c.has_place.result c.has_place.ensures c.if-not-has_place.true

pub returns : goal.returns
returns c =
    c.vote_in.ensures
    ∙ vote_seen c.self.inside.members c.self.inside.applied c.self.inside.ring.items c.args.self.now c.self.view_is c.deref.result.now c.deref.ensures.value c.args.slot c.args.member c.has_place.result c.has_place.ensures c.if-not-has_place.false

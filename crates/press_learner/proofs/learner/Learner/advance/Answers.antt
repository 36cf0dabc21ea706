use Rattle.std.proofs.Common.{ap, subst, arith}
use Rattle.press_learner.specs.Kept.{KeptVotes, IsWindow}
use Rattle.press_learner.proofs.Majorities.{chosen_before_last}
use Rattle.press_learner.proofs.Views.{advanced_seen, room_after, window_after}
use Rattle.press_learner.proofs.learner.Learner.advance.Goals as goal

pub invariant_of-self : goal.invariant_of-self
invariant_of-self c =
    let f = c.self.inside in
    let now = c.args.self.now in
    let more = c.empty_slot.new.ring.items in
    let w : IsWindow now = subst IsWindow c.self.view_is c.self.invariant.2 in (
      c.self.invariant.0,
      omega (arith, chosen_before_last now w c.requires, ap (λ (k : KeptVotes). k.applied) c.self.view_is),
      window_after f.members f.applied f.ring.items now c.self.view_is more c.empty_slot.ensures w,
      room_after f.members f.applied f.ring.items now c.self.view_is more c.empty_slot.ensures c.self.invariant.3,
    )

pub returns : goal.returns
returns c = advanced_seen c.self.inside.members c.self.inside.applied c.self.inside.ring.items c.args.self.now c.self.view_is c.empty_slot.new.ring.items c.empty_slot.ensures

use Rattle.std.proofs.Common.{◌≤◌, slice_get, sym, subst}
use Rattle.std.proofs.lemmas.List.{length-map}
use Rattle.std.proofs.Math.Logic.{∥∥₁_map}
use Rattle.press_callbacks.specs.Kits.{KitView}
use Rattle.press_world.specs.Models.{kept_in, model, size, statics}
use Rattle.press_world.specs.Refusing.{event_refusal}
use Rattle.press_world.specs.Seats.{place_of, static_of}
use Rattle.press_world.specs.Sound.{AreMembers}
use Rattle.press_world.specs.Stored.{stored_does}
use Rattle.press_world.proofs.Members.{few}
use Rattle.press_world.proofs.Playing.{turn_sound}
use Rattle.press_world.proofs.Votes.{learns}
use Rattle.press_world.proofs.world.World.play_event.Goals as goal

pub invariant_of-self : goal.invariant_of-self
invariant_of-self g c =
    let w = c.args.self.now in
    let law = learns c.chosen_by_majority.ensures c.only_votes_that_came_are_kept.ensures.vote c.only_votes_that_came_are_kept.ensures.advance in
    record {
      sound = ∥∥₁_map w.sound (λ s. turn_sound law c.play_event.result (size w) (model w) (kept_in c.play_event.new.self) c.args.cut
          (λ stop. stored_does (size w) (model w) c.args.coming.message_index c.args.index (slice_get (model w).places c.args.index) c.args.coming.event stop)
          (event_refusal (slice_get (model w).places c.args.index) c.args.coming.event c.args.cut)
          c.requires.step c.play_event.ensures.ok c.play_event.ensures.err (sym (length-map w.cluster.seats.items place_of)) s);
      members = subst (λ x. ∥ ((kit : KitView) × AreMembers kit x) ∥₁) (sym c.play_event.ensures.statics) w.members;
    }

pub play_event-requires-clause-few : goal.play_event-requires-clause-few
play_event-requires-clause-few g c =
    let w = c.args.self.now in
    subst (λ k. k ≤ 7) (length-map w.cluster.seats.items static_of) (few (statics w) w.members)

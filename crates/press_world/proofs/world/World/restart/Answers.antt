use Rattle.std.proofs.Common.{length, sym, subst, ◌∙◌}
use Rattle.std.proofs.lemmas.List.{length-map}
use Rattle.std.proofs.Math.Logic.{∥∥₁_map}
use Rattle.press_callbacks.specs.Kits.{KitView}
use Rattle.press_world.specs.Models.{kept_in, model, size}
use Rattle.press_world.specs.Seats.{place_of, static_of}
use Rattle.press_world.specs.Sound.{AreMembers, IsSound}
use Rattle.press_world.specs.declared.step.Step.TheVariants.{Restart}
use Rattle.press_world.proofs.Members.{same_size}
use Rattle.press_world.proofs.Playing.{sound_step}
use Rattle.press_world.proofs.Steps.{restart_is, restart_steps, numbered, restarted_sent, some_place}
use Rattle.press_world.proofs.Votes.{learns}
use Rattle.press_world.proofs.world.World.restart.Goals as goal

pub invariant_of-self : goal.invariant_of-self
invariant_of-self g c =
    let w = c.args.self.now in
    let law = learns c.chosen_by_majority.ensures c.only_votes_that_came_are_kept.ensures.vote c.only_votes_that_came_are_kept.ensures.advance in
    record {
      sound = ∥∥₁_map w.sound (λ s. subst IsSound (restart_is (size w) (model w) c.args.number c.in-Some.index c.in-Some.ensures ∙ sym c.restart.ensures.restarted)
          (sound_step law (size w) (model w) (Restart c.args.number) (sym (length-map w.cluster.seats.items place_of)) s));
      members = subst (λ x. ∥ ((kit : KitView) × AreMembers kit x) ∥₁) (sym c.restart.ensures.statics) w.members;
    }

pub returns-clause-steps : goal.returns-clause-steps
returns-clause-steps g c kit =
    let w = c.args.self.now in
    let after = c.restart.new.self in
    let p = some_place (model w).places c.in-Some.index (numbered (length (model w).places) c.args.number c.in-Some.index c.in-Some.ensures).1 in
    restart_steps kit (size w) (model w) (kept_in after) c.args.number c.in-Some.index p.0 c.report_of_event.result c.in-Some.ensures p.1
    (same_size place_of static_of w.cluster.seats.items after.seats.items c.restart.ensures.statics)
    (restarted_sent (size w) (model w) (kept_in after) c.in-Some.index c.restart.ensures.restarted)
    c.restart.ensures.restarted c.report_of_event.ensures

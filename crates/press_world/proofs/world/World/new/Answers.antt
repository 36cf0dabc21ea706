use Rattle.std.proofs.Common.{◌≡◌, length, sym, ap, subst, ◌∙◌, arith}
use Rattle.std.proofs.lemmas.List.{length-map}
use Rattle.press_callbacks.specs.Kits.{KitView, kit_view}
use Rattle.press_world.specs.Sound.{AreMembers, IsSound}
use Rattle.press_world.specs.Starts.{statics_from, views_of}
use Rattle.press_world.specs.Worlds.{new_places}
use Rattle.press_world.proofs.Started.{members_new, sound_new}
use Rattle.press_world.proofs.Votes.{learns}
use Rattle.press_world.proofs.world.World.new.Goals as goal

pub invariant_of-result : goal.invariant_of-result
invariant_of-result g c =
    let law = learns c.chosen_by_majority.ensures c.only_votes_that_came_are_kept.ensures.vote c.only_votes_that_came_are_kept.ensures.advance in
    let kits = c.args.kits.items in
    let views = views_of kits in
    let n : c.len-members.result ≡ length views = omega (arith, c.len-members.ensures, length-map kits kit_view) in
    let m : c.len-members.result ≡ length kits = omega (arith, c.len-members.ensures) in
    record {
      sound = subst (λ s. ∥ IsSound s ∥₁) (sym (λ i. record { places = (c.in_ok-seats.ensures.places ∙ ap (λ k. new_places k 1 (length kits)) m) i; sent = c.new.ensures.items i; entries = c.new-2.ensures.items i })) ∣ sound_new law (length kits) ∣₁;
      members = subst (λ x. ∥ ((kit : KitView) × AreMembers kit x) ∥₁) (sym (c.in_ok-seats.ensures.statics ∙ ap (λ k. statics_from 1 k views) n))
          ∣ (c.requires.alike.0, members_new c.requires.alike.0 views (omega (arith, c.requires.few, length-map kits kit_view)) c.requires.alike.1) ∣₁;
    }

use Rattle.std.proofs.Common.{◌≡◌, ◌<◌, ◌+◌, Some, sym, subst, ◌∙◌}
use Rattle.press_node.specs.declared.event.Event.TheVariants.{Wake}
use Rattle.press_world.specs.Seats.{place_of}
use Rattle.press_world.specs.Seen.{IsAbout}
use Rattle.press_world.specs.Worlds.{Place}
use Rattle.press_world.proofs.Changed.{found, map_get}
use Rattle.press_world.proofs.Counting.{wake_about}
use Rattle.press_world.proofs.world.World.next_slot.Goals as goal

pub returns : goal.returns
returns g c p = λ e.
    let seats = c.args.self.now.cluster.seats.items in
    let seat = c.index.result.now in
    let at = map_get place_of seats c.args.index seat (found seats c.args.index seat c.requires.inside c.index.ensures) in
    let same : place_of seat ≡ p = let h : Some (place_of seat) ≡ Some p = sym at ∙ e in cc in
    subst (λ (q : Place). IsAbout q.up Wake c.slot_after.result) same
    (wake_about seat.state c.slot_after.result c.applied.ensures.whole (subst (λ k. k < 1000000 → k + 1 ≡ c.slot_after.result) c.applied.ensures.value c.slot_after.ensures))

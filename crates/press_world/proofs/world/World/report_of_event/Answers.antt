use Rattle.std.proofs.Common.{◌+◌, None, sym, ap, ◌∙◌}
use Rattle.press_world.specs.Seats.{place_of}
use Rattle.press_world.specs.Telling.{applied_count_in, or_none}
use Rattle.press_world.proofs.Changed.{found, map_get}
use Rattle.press_world.proofs.Counting.{count_is}
use Rattle.press_world.proofs.world.World.report_of_event.Goals as goal

pub returns : goal.returns
returns g c =
    let seats = c.args.self.now.cluster.seats.items in
    let seat = c.index.result.now in
    let at = map_get place_of seats c.args.index seat (found seats c.args.index seat c.requires.inside c.index.ensures) in
    let count = c.applied.ensures.value ∙ count_is seat.state (place_of seat) (λ i. (place_of seat).up) ∙ ap (λ o. or_none (applied_count_in o)) (sym at) in
    λ i. record {
      node = c.args.index + 1;
      first = c.first_of.ensures i;
      count = c.args.count;
      stopped = c.is_cut.ensures i;
      applied = count i;
      reply = None;
    }

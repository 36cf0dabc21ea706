use Rattle.std.proofs.Common.{◌≡◌, ◌<◌, length, slice_get, Some, subst, ap, ◌∙◌}
use Rattle.std.proofs.lemmas.List.{length-map}
use Rattle.press_node.specs.Nodes.{IsPageAt}
use Rattle.press_world.specs.Models.{model, size, statics}
use Rattle.press_world.specs.Seats.{place_of, static_of}
use Rattle.press_world.proofs.Changed.{found, map_get}
use Rattle.press_world.proofs.Lists.{all_at}
use Rattle.press_world.proofs.Steps.{get_fails, get_steps, get_takes, numbered}
use Rattle.press_world.proofs.world.World.get.Goals as goal

pub returns-in-Ok : goal.returns-in-Ok
returns-in-Ok g c =
    let w = c.args.self.now in
    let seats = w.cluster.seats.items in
    let seat = c.index-2.result.now in
    let index = c.in-Some.index in
    let lt : index < length seats = subst (λ k. index < k) (length-map seats place_of) (numbered (length (model w).places) c.args.number index c.in-Some.ensures).1 in
    let at : slice_get seats index ≡ Some seat = found seats index seat lt c.index-2.ensures in
    record {
      memory = tt;
      steps = λ kit have.
          let same : (static_of seat).kit ≡ kit = all_at (λ x. x.kit ≡ kit) (statics w) index (static_of seat) have (map_get static_of seats index seat at) in
          get_steps kit (size w) (model w) c.args.number index c.args.target.now seat.store seat.state.up c.in-Ok.reply c.with_reply.result c.in-Some.ensures (map_get place_of seats index seat at)
          (subst (λ k. IsPageAt k seat.state.up c.args.target.now c.in-Ok.reply) same c.in-Ok.ensures.page)
          (c.with_reply.ensures ∙ ap (λ t. record { node = t.node; first = t.first; count = t.count; stopped = t.stopped; applied = t.applied; reply = Some c.in-Ok.reply }) c.report_of_event-told.ensures);
    }

pub returns-in-Err : goal.returns-in-Err
returns-in-Err g c =
    let w = c.args.self.now in
    let seats = w.cluster.seats.items in
    let seat = c.index-2.result.now in
    let index = c.in-Some.index in
    let lt : index < length seats = subst (λ k. index < k) (length-map seats place_of) (numbered (length (model w).places) c.args.number index c.in-Some.ensures).1 in
    let at : slice_get seats index ≡ Some seat = found seats index seat lt c.index-2.ensures in
    record {
      memory = get_takes (model w) c.args.number index seat.store seat.state.up c.in-Err.fault c.in-Some.ensures (map_get place_of seats index seat at) c.in-Err.ensures.down;
      steps = λ kit have. get_fails kit (size w) (model w) c.args.number index c.args.target.now seat.store seat.state.up c.in-Err.fault c.in-Some.ensures (map_get place_of seats index seat at) c.in-Err.ensures.down c.in-Err.ensures.fault;
    }

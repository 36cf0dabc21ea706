use Rattle.std.proofs.Common.{rules, ◌≡◌, ◌∙◌, Some, ap, refl, slice_index_or, sym}
use Rattle.std.proofs.lemmas.List.{map-set}
use Rattle.press_net.specs.Lanes.{kept_streams, with_kept}
use Rattle.press_net.specs.declared.outgoing_connections.Lane.{Lane}
use Rattle.press_net.proofs.Lanes.{stays}
use Rattle.press_net.proofs.outgoing_connections.OutgoingConnections.keep_stream.Goals as goal

pub returns-in-Some-Some-clause-lanes : goal.returns-in-Some-Some-clause-lanes
returns-in-Some-Some-clause-lanes c =
    let item : slice_index_or c.args.self.now.lanes.items c.args.place c.in-Some-Some.lane.now ≡ c.in-Some-Some.lane.now = search rules in
    stays c.args.self.now.lanes.items c.args.place c.in-Some-Some.lane.now _ item refl

pub returns-in-Some-Some-clause-keeps : goal.returns-in-Some-Some-clause-keeps
returns-in-Some-Some-clause-keeps c =
    let is : c.args.stream ≡ Some c.in-Some-Some.stream = search rules in
    map-set (λ (lane : Lane). lane.kept) c.args.self.now.lanes.items c.args.place _
    ∙ ap (λ stream. with_kept c.args.place stream (kept_streams c.args.self.now)) (sym is)

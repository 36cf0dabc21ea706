use Rattle.std.proofs.Common.{rules, ◌≡◌, refl, slice_index_or}
use Rattle.press_net.proofs.Lanes.{stays}
use Rattle.press_net.proofs.outgoing_connections.OutgoingConnections.take_stream.Goals as goal

pub returns-clause-lanes : goal.returns-clause-lanes
returns-clause-lanes c =
    let item : slice_index_or c.args.self.now.lanes.items c.args.place c.in_ok-get_mut.field-0.now ≡ c.in_ok-get_mut.field-0.now = search rules in
    stays c.args.self.now.lanes.items c.args.place c.in_ok-get_mut.field-0.now _ item refl

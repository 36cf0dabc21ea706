use Rattle.std.proofs.Common.{rules, ◌≡◌, ◌<◌, refl, length, slice_index_or, slice_get, Some, true, ap, sym, ◌∙◌, if◌then◌else◌, None, option_and_then}
use Rattle.std.proofs.lemmas.List.Quantifiers.{position-Some}
use Rattle.std.proofs.lemmas.Option.{slice_get_read}
use Rattle.press_net.specs.declared.outgoing_connections.Lane.{Lane}
use Rattle.press_net.specs.Lanes.{after_send, queue_of, is_ready, ready_lane, front_at}
use Rattle.press_net.proofs.Lanes.{changes, first_is_ready}
use Rattle.press_net.proofs.outgoing_connections.OutgoingConnections.next.Goals as goal

pub returns-clause-next : goal.returns-clause-next
returns-clause-next c =
    let first : ready_lane c.args.self.now ≡ Some c.in_ok-place.place = search rules in
    let lane = c.in_ok-get_mut.field-0.now in
    let within : c.in_ok-place.place < length c.args.self.now.lanes.items = (position-Some (λ (l : Lane). is_ready (queue_of l)) c.args.self.now.lanes.items c.in_ok-place.place lane first).0 in
    let item : slice_index_or c.args.self.now.lanes.items c.in_ok-place.place c.in_ok-get_mut.field-0.now ≡ c.in_ok-get_mut.field-0.now = search rules in
    let is : slice_get c.args.self.now.lanes.items c.in_ok-place.place ≡ Some c.in_ok-get_mut.field-0.now = slice_get_read c.args.self.now.lanes.items _ c.in_ok-place.place lane refl within (sym item) in
    let yes : is_ready (queue_of c.in_ok-get_mut.field-0.now) ≡ true = first_is_ready c.args.self.now c.in_ok-place.place c.in_ok-get_mut.field-0.now first is in
    let front : c.send.result ≡ slice_get (queue_of c.in_ok-get_mut.field-0.now).waiting 0 = c.send.ensures.first ∙ ap (λ b. if b then slice_get (queue_of c.in_ok-get_mut.field-0.now).waiting 0 else None) yes in
    front ∙ sym (ap (option_and_then (front_at c.args.self.now)) first ∙ ap (option_and_then (λ lane. slice_get lane.waiting.items 0)) is)

pub returns-clause-lanes : goal.returns-clause-lanes
returns-clause-lanes c =
    let first : ready_lane c.args.self.now ≡ Some c.in_ok-place.place = search rules in
    let lane = c.in_ok-get_mut.field-0.now in
    let within : c.in_ok-place.place < length c.args.self.now.lanes.items = (position-Some (λ (l : Lane). is_ready (queue_of l)) c.args.self.now.lanes.items c.in_ok-place.place lane first).0 in
    let item : slice_index_or c.args.self.now.lanes.items c.in_ok-place.place c.in_ok-get_mut.field-0.now ≡ c.in_ok-get_mut.field-0.now = search rules in
    let is : slice_get c.args.self.now.lanes.items c.in_ok-place.place ≡ Some c.in_ok-get_mut.field-0.now = slice_get_read c.args.self.now.lanes.items _ c.in_ok-place.place lane refl within (sym item) in
    let yes : is_ready (queue_of c.in_ok-get_mut.field-0.now) ≡ true = first_is_ready c.args.self.now c.in_ok-place.place c.in_ok-get_mut.field-0.now first is in
    let by : queue_of c.send.new.self ≡ after_send (queue_of c.in_ok-get_mut.field-0.now) = c.send.ensures.sent ∙ ap (λ b. if b then after_send (queue_of c.in_ok-get_mut.field-0.now) else queue_of c.in_ok-get_mut.field-0.now) yes in
    let changed = changes c.args.self.now c.in_ok-place.place c.in_ok-get_mut.field-0.now c.send.new.self after_send is by in
    search rules

use Rattle.std.proofs.Common.{rules, subst, option_map, IfSome, ◌≡◌, ◌<◌, ◌+◌, ◌∙◌, ◌++◌, ◌∷◌, [], List, length, slice_get, slice_index_or, Some, ap, sym, refl}
use Rattle.std.proofs.lemmas.Option.{slice_get-map, slice_get_read}
use Rattle.press_net.specs.declared.answers.Outgoing.{Outgoing}
use Rattle.press_net.specs.Lanes.{changed_at, queue_of, queues, with_lanes, with_last}
use Rattle.press_net.proofs.Lanes.{changes, stays}
use Rattle.press_net.proofs.outgoing_connections.OutgoingConnections.add.Goals as goal

pub returns-in-Some-clause-waits : goal.returns-in-Some-clause-waits
returns-in-Some-clause-waits c = λ yes.
    let lanes = c.make_lane.new.self.lanes.items in
    let place = c.args.outgoing.place in
    let lane = c.in-Some.lane.now in
    let made : queues c.make_lane.new.self ≡ with_lanes (c.args.outgoing.place + 1) (queues c.args.self.now) = search rules in
    let within : c.args.outgoing.place < length c.make_lane.new.self.lanes.items = search rules in
    let item : slice_index_or c.make_lane.new.self.lanes.items c.args.outgoing.place c.in-Some.lane.now ≡ c.in-Some.lane.now = search rules in
    let is : slice_get c.make_lane.new.self.lanes.items c.args.outgoing.place ≡ Some c.in-Some.lane.now = slice_get_read lanes _ place lane refl within (sym item) in
    let pushed : c.push_back.new.self.items ≡ c.in-Some.lane.now.waiting.items ++ c.args.outgoing ∷ [] = search rules in
    changes c.make_lane.new.self place lane _ (with_last c.args.outgoing) is (ap (λ (waiting : List Outgoing). record { waiting = waiting; «open» = lane.«open» }) pushed)
    ∙ ap (changed_at (with_last c.args.outgoing) place) made

pub returns-in-Some-clause-lost : goal.returns-in-Some-clause-lost
returns-in-Some-clause-lost c = λ no.
    let lanes = c.make_lane.new.self.lanes.items in
    let place = c.args.outgoing.place in
    let lane = c.in-Some.lane.now in
    let made : queues c.make_lane.new.self ≡ with_lanes (c.args.outgoing.place + 1) (queues c.args.self.now) = search rules in
    let item : slice_index_or c.make_lane.new.self.lanes.items c.args.outgoing.place c.in-Some.lane.now ≡ c.in-Some.lane.now = search rules in
    let same : c.push_back.new.self.items ≡ c.in-Some.lane.now.waiting.items = search rules in
    (place + 1, stays lanes place lane _ item (ap (λ (waiting : List Outgoing). record { waiting = waiting; «open» = lane.«open» }) same) ∙ made)

pub returns-in-Some-clause-room : goal.returns-in-Some-clause-room
returns-in-Some-clause-room c = λ yes.
    let lanes = c.make_lane.new.self.lanes.items in
    let place = c.args.outgoing.place in
    let lane = c.in-Some.lane.now in
    let made : queues c.make_lane.new.self ≡ with_lanes (c.args.outgoing.place + 1) (queues c.args.self.now) = search rules in
    let within : c.args.outgoing.place < length c.make_lane.new.self.lanes.items = search rules in
    let item : slice_index_or c.make_lane.new.self.lanes.items c.args.outgoing.place c.in-Some.lane.now ≡ c.in-Some.lane.now = search rules in
    let is : slice_get c.make_lane.new.self.lanes.items c.args.outgoing.place ≡ Some c.in-Some.lane.now = slice_get_read lanes _ place lane refl within (sym item) in
    let room : length c.in-Some.lane.now.waiting.items < 4096 = search rules in
    let found = sym (ap (option_map queue_of) is) ∙ sym (slice_get-map queue_of lanes place) ∙ ap (λ all. slice_get all place) made in
    subst (λ found. IfSome found (λ queue. length queue.waiting < 4096)) found room

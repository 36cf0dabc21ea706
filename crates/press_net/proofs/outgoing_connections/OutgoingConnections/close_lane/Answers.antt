use Rattle.std.proofs.Common.{rules, ◌≡◌, ◌<◌, refl, sym, length, slice_index_or, slice_get, Some, ◌-◌, ℕ, ap}
use Rattle.std.proofs.lemmas.Option.{slice_get_read}
use Rattle.press_net.specs.Lanes.{after_end}
use Rattle.press_net.proofs.Lanes.{changes, keeps}
use Rattle.press_net.proofs.outgoing_connections.OutgoingConnections.close_lane.Goals as goal

pub returns-in-Some-clause-closes : goal.returns-in-Some-clause-closes
returns-in-Some-clause-closes c =
    let within : c.args.place < length c.args.self.now.lanes.items = search rules in
    let item : slice_index_or c.args.self.now.lanes.items c.args.place c.in-Some.lane.now ≡ c.in-Some.lane.now = search rules in
    let is : slice_get c.args.self.now.lanes.items c.args.place ≡ Some c.in-Some.lane.now = slice_get_read c.args.self.now.lanes.items _ c.args.place c.in-Some.lane.now refl within (sym item) in
    let less : c.saturating_sub-lane.result ≡ c.in-Some.lane.now.«open» - 1 = search rules in
    changes c.args.self.now c.args.place c.in-Some.lane.now _ after_end is (ap (λ (n : ℕ). record { waiting = c.in-Some.lane.now.waiting.items; «open» = n }) less)

pub returns-in-Some-clause-kept : goal.returns-in-Some-clause-kept
returns-in-Some-clause-kept c =
    let item : slice_index_or c.args.self.now.lanes.items c.args.place c.in-Some.lane.now ≡ c.in-Some.lane.now = search rules in
    keeps c.args.self.now.lanes.items c.args.place c.in-Some.lane.now _ item refl

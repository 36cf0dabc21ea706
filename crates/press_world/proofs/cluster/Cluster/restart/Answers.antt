use Rattle.std.proofs.Common.{◌+◌, ◌≡◌, ◌≤◌, length, map, slice_get, slice_set, Some, sym, subst, ap, ◌∙◌, arith}
use Rattle.std.proofs.lemmas.List.{length-map}
use Rattle.press_world.specs.Seats.{place_of, static_of}
use Rattle.press_world.specs.Worlds.{restarted_place}
use Rattle.press_world.specs.Stored.{stored_restarts}
use Rattle.press_world.specs.Models.{kept_in}
use Rattle.press_world.proofs.Changed.{found, kept_by, map_get, map_set}
use Rattle.press_world.proofs.Members.{few, member_of, members_of}
use Rattle.press_world.proofs.cluster.Cluster.restart.Goals as goal

pub overflow_cast-members : goal.overflow_cast-members
overflow_cast-members g c =
    let seats = c.args.self.now.seats.items in
    let most : length seats ≤ 7 = subst (λ k. k ≤ 7) (length-map seats static_of) (few (map static_of seats) c.requires.members) in
    omega (arith, most, c.len-members.ensures)

pub member_at-requires : goal.member_at-requires
member_at-requires g c =
    let seats = c.args.self.now.seats.items in
    let most : length seats ≤ 7 = subst (λ k. k ≤ 7) (length-map seats static_of) (few (map static_of seats) c.requires.members) in
    omega (arith, most, c.requires.inside)

pub restart-requires-clause-few : goal.restart-requires-clause-few
restart-requires-clause-few g c =
    let seats = c.args.self.now.seats.items in
    let most : length seats ≤ 7 = subst (λ k. k ≤ 7) (length-map seats static_of) (few (map static_of seats) c.requires.members) in
    omega (arith, most, c.len-members.ensures)

pub restart-requires-clause-id : goal.restart-requires-clause-id
restart-requires-clause-id g c =
    let seats = c.args.self.now.seats.items in
    let old = c.index_mut.result.now in
    let at : slice_get seats c.args.index ≡ Some old = found seats c.args.index old c.requires.inside c.index_mut.ensures.value in
    let x : slice_get (map static_of seats) c.args.index ≡ Some (static_of old) = map_get static_of seats c.args.index old at in
    member_of (map static_of seats) c.requires.members c.args.index (static_of old) x ∙ sym c.member_at.ensures

pub restart-requires-clause-members : goal.restart-requires-clause-members
restart-requires-clause-members g c =
    let seats = c.args.self.now.seats.items in
    let old = c.index_mut.result.now in
    let at : slice_get seats c.args.index ≡ Some old = found seats c.args.index old c.requires.inside c.index_mut.ensures.value in
    let x : slice_get (map static_of seats) c.args.index ≡ Some (static_of old) = map_get static_of seats c.args.index old at in
    let n : c.len-members.result ≡ length seats = omega (arith, c.len-members.ensures) in
    members_of (map static_of seats) c.requires.members c.args.index (static_of old) x ∙ length-map seats static_of ∙ sym n

pub returns-clause-statics : goal.returns-clause-statics
returns-clause-statics g c =
    let old = c.index_mut.result.now in
    kept_by static_of c.args.self.now.seats.items c.args.index old c.restart.new.self (found c.args.self.now.seats.items c.args.index old c.requires.inside c.index_mut.ensures.value) c.restart.ensures.fixed

pub returns-clause-restarted : goal.returns-clause-restarted
returns-clause-restarted g c =
    let seats = c.args.self.now.seats.items in
    let old = c.index_mut.result.now in
    let new = c.restart.new.self in
    let at : slice_get seats c.args.index ≡ Some old = found seats c.args.index old c.requires.inside c.index_mut.ensures.value in
    let n : c.len-members.result ≡ length seats = omega (arith, c.len-members.ensures) in
    let place : place_of new ≡ restarted_place (length seats) (c.args.index + 1) old.store =
    c.restart.ensures.place ∙ ap (λ k. restarted_place k c.member_at.result old.store) n ∙ ap (λ k. restarted_place (length seats) k old.store) c.member_at.ensures in
    (λ i. record {
      places = (map_set place_of seats c.args.index new ∙ ap (slice_set (map place_of seats) c.args.index) place) i;
      sent = c.args.self.now.sent.items;
      entries = c.args.self.now.trace.items;
    })
    ∙ ap (stored_restarts (length seats) (kept_in c.args.self.now) c.args.index) (sym (map_get place_of seats c.args.index old at))

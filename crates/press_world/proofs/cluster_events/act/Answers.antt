use Rattle.std.proofs.Common.{◌+◌, ◌≡◌, length, map, slice_get, Some, subst, ◌∙◌}
use Rattle.std.proofs.lemmas.List.{length-map}
use Rattle.press_world.specs.Acts.{DoesAt, FailsAt}
use Rattle.press_world.specs.Seats.{static_of, place_of}
use Rattle.press_world.proofs.Changed.{found, kept_by, map_get, map_set, if_ok, if_err}
use Rattle.press_world.proofs.Members.{member_of, members_of}
use Rattle.press_world.proofs.cluster_events.act.Goals as goal

pub returns-clause-statics : goal.returns-clause-statics
returns-clause-statics g c =
    let old = c.index_mut.result.now in
    kept_by static_of c.args.seats.now.items c.args.index old c.act.new.self (found c.args.seats.now.items c.args.index old c.requires.inside c.index_mut.ensures.value) c.act.ensures.fixed

pub returns-clause-ok : goal.returns-clause-ok
returns-clause-ok g c =
    let seats = c.args.seats.now.items in
    let old = c.index_mut.result.now in
    let new = c.act.new.self in
    let at : slice_get seats c.args.index ≡ Some old = found seats c.args.index old c.requires.inside c.index_mut.ensures.value in
    let x : slice_get (map static_of seats) c.args.index ≡ Some (static_of old) = map_get static_of seats c.args.index old at in
    let m : old.state.members ≡ length seats = members_of (map static_of seats) c.requires.members c.args.index (static_of old) x ∙ length-map seats static_of in
    let i : old.state.id ≡ c.args.index + 1 = member_of (map static_of seats) c.requires.members c.args.index (static_of old) x in
    if_ok c.act.result (λ out h. record {
      before = place_of old;
      after = place_of new;
      at = map_get place_of seats c.args.index old at;
      set = map_set place_of seats c.args.index new;
      did = subst (λ k. DoesAt k (c.args.index + 1) (place_of old).store (place_of old).up c.args.event c.args.cut out.items (place_of new)) m
          (subst (λ k. DoesAt old.state.members k (place_of old).store (place_of old).up c.args.event c.args.cut out.items (place_of new)) i h);
    }) c.act.ensures.ok

pub returns-clause-err : goal.returns-clause-err
returns-clause-err g c =
    let seats = c.args.seats.now.items in
    let old = c.index_mut.result.now in
    let new = c.act.new.self in
    let at : slice_get seats c.args.index ≡ Some old = found seats c.args.index old c.requires.inside c.index_mut.ensures.value in
    let x : slice_get (map static_of seats) c.args.index ≡ Some (static_of old) = map_get static_of seats c.args.index old at in
    let m : old.state.members ≡ length seats = members_of (map static_of seats) c.requires.members c.args.index (static_of old) x ∙ length-map seats static_of in
    let i : old.state.id ≡ c.args.index + 1 = member_of (map static_of seats) c.requires.members c.args.index (static_of old) x in
    if_err c.act.result (λ e h. record {
      before = place_of old;
      after = place_of new;
      at = map_get place_of seats c.args.index old at;
      set = map_set place_of seats c.args.index new;
      did = subst (λ k. FailsAt k (c.args.index + 1) (place_of old).store (place_of old).up c.args.event c.args.cut e (place_of new)) m
          (subst (λ k. FailsAt old.state.members k (place_of old).store (place_of old).up c.args.event c.args.cut e (place_of new)) i h);
    }) c.act.ensures.err

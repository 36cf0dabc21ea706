use Rattle.std.proofs.Common.{rules, ◌+◌, ◌≡◌, sym, subst, Some, MatchOption, refl}
use Rattle.std.proofs.lemmas.Option.{slice_get_read}
use Rattle.press_net.specs.Talking.{HasNone, IsOldest}
use Rattle.press_net.proofs.Found.{Found, found_older, found_newer, found_all}
use Rattle.press_net.proofs.connections.Connections.oldest.Goals.{in-Some, in_default}
use Rattle.press_net.proofs.connections.Connections.oldest.Goals as goal

pub loop-place-preserved : goal.loop-place-preserved
loop-place-preserved c =
    let slots = c.deref-slot-items.result.now in
    let is = slice_get_read slots _ c.loop-place.place c.slot-item.result refl c.loop-place-test.true c.slot-item.is in
    let Next = Found c.args.rank c.args.intake c.deref-slot-items.result.now (c.loop-place.place + 1) in
    elim c.match-number_before.branch as (λ _. Next c.match-number_before.found) [
      | in-Some w ↦ subst Next (sym w.found-is) (found_newer c.args.rank c.args.intake slots c.loop-place.place c.loop-place.found c.slot-item.result w.in-Some.number is w.in-Some.ensures c.loop-place.invariant)
      | in_default w ↦ subst Next (sym w.found-is) (found_older c.args.rank c.args.intake slots c.loop-place.place c.loop-place.found c.slot-item.result is w.in_default.ensures c.loop-place.invariant)
    ]

pub returns : goal.returns
returns c =
    let slots = c.deref-slot-items.result.now in
    let all = found_all c.args.rank c.args.intake slots c.loop-place.place c.loop-place.found c.loop-place-test.false c.loop-place.invariant in
    let found : c.loop-place.found ≡ Some (c.in_ok-place.place, c.in_ok-place.field-0-1) = search rules in
    subst (λ slots. IsOldest c.args.rank c.args.intake slots c.in_ok-place.place) c.deref-slot-items.ensures.value
    (subst (λ found. MatchOption found (HasNone c.args.rank c.args.intake slots) (λ f. IsOldest c.args.rank c.args.intake slots f.0)) found all)

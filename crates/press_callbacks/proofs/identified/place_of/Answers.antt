use Rattle.std.proofs.Common.{◌≡◌, ◌∙◌, ◌<◌, ◌≤◌, sym, ap, true, false, length, bytes_eq, arith}
use Rattle.press_callbacks.proofs.Halves.{halved, missed, all_before}
use Rattle.press_callbacks.proofs.identified.place_of.Goals as goal

pub returns-then-place-sorted : goal.returns-then-place-sorted
returns-then-place-sorted g c =
    let past : length c.args.sorted.now ≤ c.first_not_before-place.result = omega arith in
    sym (all_before g.T.Identified.id c.args.id.now c.args.sorted.now c.first_not_before-place.result c.first_not_before-place.ensures.parts.0 past)

pub returns-then-is_of_id : goal.returns-then-is_of_id
returns-then-is_of_id g c =
    let within : c.first_not_before-place.result < length c.args.sorted.now = omega arith in
    let e : bytes_eq (g.T.Identified.id c.index-sorted-place.result) c.args.id.now ≡ true = cc in
    sym (halved g.T.Identified.id c.args.id.now c.args.sorted.now c.first_not_before-place.result c.index-sorted-place.result c.first_not_before-place.ensures.parts.0 within c.index-sorted-place.is e)

pub returns : goal.returns
returns g c =
    let within : c.first_not_before-place.result < length c.args.sorted.now = omega arith in
    let e : bytes_eq (g.T.Identified.id c.index-sorted-place.result) c.args.id.now ≡ false = cc in
    sym (missed g.T.Identified.id c.args.id.now c.args.sorted.now c.first_not_before-place.result c.index-sorted-place.result c.requires c.first_not_before-place.ensures.parts.0 c.first_not_before-place.ensures.parts.1 within
    (ap (λ x. bytes_eq (g.T.Identified.id x) c.args.id.now) (sym c.index-sorted-place.is) ∙ e))

use Rattle.std.proofs.Common.{◌≡◌, ◌<◌, sym, true, length, bytes_eq}
use Rattle.std.proofs.lemmas.Bool.{ltb-true}
use Rattle.press_callbacks.proofs.Found.{looked}
use Rattle.press_callbacks.proofs.hints.Hints.place_of.Goals as goal

pub returns-then-is_of_id : goal.returns-then-is_of_id
returns-then-is_of_id g c =
    let within : c.in_ok-place.field-0.now < length c.args.items.now = ltb-true c.in_ok-place.field-0.now (length c.args.items.now) (sym c.in_ok-get.ensures.lookup.0) in
    let e : bytes_eq (g.T.Identified.id c.in_ok-get.field-0.now) c.args.id.now ≡ true = cc in
    looked g.T.Identified.id c.args.id.now c.args.items.now c.in_ok-place.field-0.now c.in_ok-get.field-0.now within c.in_ok-get.ensures.lookup.1 e

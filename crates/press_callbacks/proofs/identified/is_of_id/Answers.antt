use Rattle.std.proofs.Common.{◌∙◌, ap}
use Rattle.std.specs.Ordering.{is_eq}
use Rattle.std.proofs.lemmas.Map.Text.{is_eq-slice_cmp}
use Rattle.press_callbacks.proofs.identified.is_of_id.Goals as goal

pub returns : goal.returns
returns g c =
    rw (← c.callback_id.ensures)
    (c.is_eq.ensures ∙ ap is_eq c.order.ensures ∙ is_eq-slice_cmp c.callback_id.result.now c.args.id.now)

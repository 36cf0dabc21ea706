use Rattle.std.proofs.Common.{◌≡◌, map, take}
use Rattle.serde_json.specs.View.{view}
use Rattle.press_page.specs.Desk.{option_data}
use Rattle.press_page.proofs.desk.option_values.Given as goal

abbrev pub invariant-loop-option : goal.invariant-loop-option
invariant-loop-option l = map view l.values.items ≡ map (λ o. option_data (o.name, o.value)) (take l.option-index l.options)

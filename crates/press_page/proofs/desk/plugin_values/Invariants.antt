use Rattle.std.proofs.Common.{◌≡◌, map, take}
use Rattle.serde_json.specs.View.{view}
use Rattle.serde_json.specs.Data.{string}
use Rattle.press_page.proofs.desk.plugin_values.Given as goal

abbrev pub invariant-loop-plugin : goal.invariant-loop-plugin
invariant-loop-plugin l = map view l.values.items ≡ map (λ p. string p.name) (take l.plugin-index l.plugins)

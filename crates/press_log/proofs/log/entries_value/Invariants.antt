use Rattle.std.proofs.Common.{◌≡◌, map, take}
use Rattle.serde_json.specs.View.{view}
use Rattle.press_log.specs.Log.{entry_data}
use Rattle.press_log.proofs.log.entries_value.Given as goal

abbrev pub invariant-loop-value : goal.invariant-loop-value
invariant-loop-value l = map view l.entries.items ≡ map entry_data (take l.value-index l.values)

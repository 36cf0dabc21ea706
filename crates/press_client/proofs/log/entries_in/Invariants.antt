use Rattle.std.proofs.Common.{map, take}
use Rattle.serde_json.specs.View.{view}
use Rattle.press_client.specs.Logging.{AreEntries}
use Rattle.press_client.proofs.log.entries_in.Given as goal

abbrev pub invariant-loop-value : goal.invariant-loop-value
invariant-loop-value l = AreEntries l.entries.items (map view (take l.value-index l.values))

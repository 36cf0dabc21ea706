use Rattle.std.proofs.Common.{map}
use Rattle.serde_json.specs.View.{view}
use Rattle.press_kit.proofs.Loop.{listed}
use Rattle.press_kit.proofs.fields.list.Goals as goal

pub returns-in-Some : goal.returns-in-Some
returns-in-Some c = rw c.as_slice.ensures.value (listed (view c.args.value.now) (map view c.in-Some.values.now.items) c.in-Some.ensures)

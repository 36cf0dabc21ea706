use Rattle.serde_json.specs.View.{view}
use Rattle.press_kit.specs.declared.place.Place.TheVariants as place
use Rattle.press_kit.proofs.Texts.{is_json, no_json}
use Rattle.press_kit.proofs.json.json.Goals as goal

pub returns-in-Ok : goal.returns-in-Ok
returns-in-Ok c = is_json place.File c.args.bytes.now (view c.in-Ok.value) c.in-Ok.ensures.ok.0 c.in-Ok.ensures.ok.1

pub returns-else-is_memory : goal.returns-else-is_memory
returns-else-is_memory c = no_json place.File c.args.bytes.now (c.in-Err.ensures.err (λ m. let t = c.is_memory.ensures.1 m in cc))

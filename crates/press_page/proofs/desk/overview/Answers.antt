use Rattle.std.proofs.Common.{◌∙◌, ap}
use Rattle.serde_json.specs.Written.{has_float}
use Rattle.press_callbacks.specs.Kits.{kit_view}
use Rattle.press_page.proofs.Desks.{no_float_site}
use Rattle.press_page.proofs.desk.overview.Goals as goal

pub json_reply-requires : goal.json_reply-requires
json_reply-requires g c = ap has_float c.in_ok-value.ensures ∙ no_float_site (kit_view c.args.kit.now) c.args.site.now c.args.applied

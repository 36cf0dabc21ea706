use Rattle.std.proofs.Common.{◌∙◌, ap}
use Rattle.std.specs.Prelude.{is_some}
use Rattle.press_events.proofs.Halves.{stands_is}
use Rattle.press_events.proofs.events.stands.Goals as goal

pub returns : goal.returns
returns c = c.is_some.ensures ∙ ap is_some c.place_of.ensures.place ∙ stands_is c.args.event.now c.args.events.now

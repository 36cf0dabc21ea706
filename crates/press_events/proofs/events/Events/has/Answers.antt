use Rattle.std.proofs.Common.{◌∙◌, ap}
use Rattle.press_events.specs.DueEvents.{cancels}
use Rattle.press_events.proofs.Numbers.{none_covered}
use Rattle.press_events.proofs.events.Events.has.Goals as goal

pub returns-else-has : goal.returns-else-has
returns-else-has c =
    none_covered c.args.hook.now c.args.arg.now c.self.inside.events.items c.self.inside.marks c.mark.result c.has.result c.self.invariant.1 c.mark.ensures c.has.ensures c.if-has.false
    ∙ ap (cancels c.args.hook.now c.args.arg.now) c.self.view_is

use Rattle.std.proofs.Common.{◌≡◌, List}
use Rattle.std.proofs.lemmas.Result.{IfOk-weaker}
use Rattle.press_events.specs.declared.event.Event.{Event}
use Rattle.press_events.specs.DueEvents.{IsByTime, due, is_due}
use Rattle.press_events.proofs.ByTime.{by_time_filter}
use Rattle.press_events.proofs.events.Events.due.Goals as goal

pub returns-clause-order : goal.returns-clause-order
returns-clause-order c =
    IfOk-weaker _ (λ (es : List Event). es ≡ due c.args.now c.as_slice.result.now) IsByTime (λ es h. rw (h, c.as_slice.ensures.value) (by_time_filter (is_due c.args.now) c.self.inside.events.items c.self.invariant.0.by_time)) c.due.ensures.events

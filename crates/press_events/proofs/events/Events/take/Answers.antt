use Rattle.std.proofs.Common.{◌≡◌, ◌∙◌, ◌<◌, ap, refl, subst, not, length, List}
use Rattle.press_events.specs.DueEvents.{stands}
use Rattle.press_events.specs.Marks.{mark}
use Rattle.press_events.specs.declared.event.Event.{Event}
use Rattle.press_events.proofs.ByTime.{by_time_remove}
use Rattle.press_events.proofs.Numbers.{covers_again, covers_without, stays_out}
use Rattle.press_events.proofs.Schedules.{schedule_again, schedule_removed}
use Rattle.press_events.proofs.events.Events.take.Goals as goal

pub put_again-requires-clause-order : goal.put_again-requires-clause-order
put_again-requires-clause-order c = rw c.remove-taken.ensures.items (by_time_remove c.self.inside.events.items c.in-Some.place c.self.invariant.0.by_time)

pub invariant_of-self : goal.invariant_of-self
invariant_of-self c =
    let lt : c.in-Some.place < length c.self.inside.events.items = subst (λ (es : List Event). c.in-Some.place < length es) c.deref.ensures.value c.in-Some.ensures.within in
    rw c.remove-taken.ensures.items (
      schedule_removed c.self.inside.events.items c.in-Some.place lt c.self.invariant.0,
      covers_without c.self.inside.events.items c.in-Some.place c.remove-taken.result c.self.inside.marks c.remove.new.self c.mark-mark.result lt c.remove-taken.ensures.value (c.mark-mark.ensures ∙ ap mark c.as_str.ensures)
          c.self.invariant.1 c.remove.ensures,
    )

pub invariant_of-self-then-not-put_again : goal.invariant_of-self-then-not-put_again
invariant_of-self-then-not-put_again c =
    let lt : c.in-Some.place < length c.self.inside.events.items = subst (λ (es : List Event). c.in-Some.place < length es) c.deref.ensures.value c.in-Some.ensures.within in
    let new : Event = record { time = c.in-Some-next.time; hook = c.remove-taken.result.hook; arg = c.remove-taken.result.arg; every = c.remove-taken.result.every } in
    rw (c.put_again.ensures.after, stays_out c.remove-taken.new.self.items new c.put_again.result c.put_again.ensures.put c.if-not-put_again.true, c.remove-taken.ensures.items) (
      schedule_removed c.self.inside.events.items c.in-Some.place lt c.self.invariant.0,
      covers_without c.self.inside.events.items c.in-Some.place c.remove-taken.result c.self.inside.marks c.remove-then-not-put_again.new.self c.mark-mark.result lt c.remove-taken.ensures.value (c.mark-mark.ensures ∙ ap mark c.as_str.ensures)
          c.self.invariant.1 c.remove-then-not-put_again.ensures,
    )

pub invariant_of-self-else-not-put_again : goal.invariant_of-self-else-not-put_again
invariant_of-self-else-not-put_again c =
    let lt : c.in-Some.place < length c.self.inside.events.items = subst (λ (es : List Event). c.in-Some.place < length es) c.deref.ensures.value c.in-Some.ensures.within in
    let new : Event = record { time = c.in-Some-next.time; hook = c.remove-taken.result.hook; arg = c.remove-taken.result.arg; every = c.remove-taken.result.every } in
    rw (c.put_again.ensures.after, c.remove-taken.ensures.items) (
      schedule_again c.self.inside.events.items c.in-Some.place c.remove-taken.result new lt c.remove-taken.ensures.value refl c.self.invariant.0,
      covers_again c.self.inside.events.items c.in-Some.place c.remove-taken.result new c.self.inside.marks lt c.remove-taken.ensures.value refl c.self.invariant.1 c.put_again.result
          (subst (λ (es : List Event). c.put_again.result ≡ not (stands new es)) c.remove-taken.ensures.items c.put_again.ensures.put) c.if-not-put_again.false,
    )

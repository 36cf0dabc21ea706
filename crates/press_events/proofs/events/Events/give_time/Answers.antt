use Rattle.std.proofs.Common.{◌≡◌, ◌∙◌, ◌<◌, ◌≤◌, ap, sym, subst, refl, false, length, List}
use Rattle.std.specs.Prelude.{insert, remove, slice_index_or}
use Rattle.press_events.specs.Shifts.{ShiftsBack}
use Rattle.press_events.specs.DueEvents.{insert_event, stands}
use Rattle.press_events.specs.declared.event.Event.{Event}
use Rattle.press_events.specs.declared.shift.Shift.TheVariants.{Moved}
use Rattle.press_events.proofs.ByTime.{by_time_remove}
use Rattle.press_events.proofs.Schedules.{schedule_moved}
use Rattle.press_events.proofs.Shifting.{any_default, covers_moved, moved}
use Rattle.press_events.proofs.events.Events.give_time.Goals as goal

pub put_over-to-requires-clause-order : goal.put_over-to-requires-clause-order
put_over-to-requires-clause-order c = rw c.remove-event.ensures.items (by_time_remove c.self.inside.events.items c.args.place c.self.invariant.0.by_time)

pub invariant_of-self : goal.invariant_of-self
invariant_of-self c =
    let es : List Event = c.self.inside.events.items in
    let old : Event = c.remove-event.result in
    let lt : c.args.place < length es = subst (λ (es : List Event). c.args.place < length es) (sym c.self.view_is) c.requires.within in
    let new : Event = record old { time = c.args.time; every = c.args.every } in
    let free : stands new (remove es c.args.place) ≡ false =
    ap (λ (e : Event). stands (record e { time = c.args.time }) (remove es c.args.place)) (c.remove-event.ensures.value ∙ any_default es c.args.place old old lt)
    ∙ subst (λ (es : List Event). stands (record (slice_index_or es c.args.place old) { time = c.args.time }) (remove es c.args.place) ≡ false) (sym c.self.view_is) (c.requires.free old) in
    rw (c.put_over-to.ensures.after, c.remove-event.ensures.items) (
      schedule_moved es c.args.place old new lt c.remove-event.ensures.value refl free c.self.invariant.0,
      covers_moved es c.args.place _ old new c.self.inside.marks lt c.remove-event.ensures.value refl c.self.invariant.1,
    )

pub returns-clause-after : goal.returns-clause-after
returns-clause-after c = λ d.
    let es : List Event = c.self.inside.events.items in
    let lt : c.args.place < length es = subst (λ (es : List Event). c.args.place < length es) (sym c.self.view_is) c.requires.within in
    let new : Event = record c.remove-event.result { time = c.args.time; every = c.args.every } in
    c.put_over-to.ensures.after ∙ ap (insert_event new) c.remove-event.ensures.items
    ∙ ap (λ (e : Event). insert_event (record e { time = c.args.time; every = c.args.every }) (remove es c.args.place)) (c.remove-event.ensures.value ∙ any_default es c.args.place c.remove-event.result d lt)
    ∙ ap (λ (xs : List Event). insert_event (record (slice_index_or xs c.args.place d) { time = c.args.time; every = c.args.every }) (remove xs c.args.place)) c.self.view_is

pub returns-clause-back : goal.returns-clause-back
returns-clause-back c =
    let es : List Event = c.self.inside.events.items in
    let old : Event = c.remove-event.result in
    let lt : c.args.place < length es = subst (λ (es : List Event). c.args.place < length es) (sym c.self.view_is) c.requires.within in
    let new : Event = record old { time = c.args.time; every = c.args.every } in
    let put : c.put_over-to.new.events.items ≡ insert (remove es c.args.place) c.put_over-to.result new =
    c.put_over-to.ensures.after ∙ ap (λ n. insert c.remove-event.new.self.items n new) (sym c.put_over-to.ensures.place) ∙ ap (λ (xs : List Event). insert xs c.put_over-to.result new) c.remove-event.ensures.items in
    let le : c.put_over-to.result ≤ length (remove es c.args.place) = subst (λ (xs : List Event). c.put_over-to.result ≤ length xs) c.remove-event.ensures.items c.put_over-to.ensures.within in
    subst (λ (stood : List Event). ShiftsBack (Moved c.put_over-to.result c.args.place old.time old.every) c.put_over-to.new.events.items stood) c.self.view_is
    (subst (λ (xs : List Event). ShiftsBack (Moved c.put_over-to.result c.args.place old.time old.every) xs es) (sym put)
    (moved es c.args.place c.put_over-to.result c.args.time c.args.every old lt le c.remove-event.ensures.value c.self.invariant.0))

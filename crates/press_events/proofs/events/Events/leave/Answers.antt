use Rattle.std.proofs.Common.{◌∙◌, ◌<◌, ap, sym, subst, arith, length, List}
use Rattle.std.specs.Prelude.{remove, vec_capacity}
use Rattle.std.proofs.lemmas.List.Edits.{length-remove}
use Rattle.press_events.specs.Marks.{mark}
use Rattle.press_events.specs.Shifts.{ShiftsBack}
use Rattle.press_events.specs.declared.event.Event.{Event}
use Rattle.press_events.specs.declared.shift.Shift.TheVariants.{Went}
use Rattle.press_events.proofs.Numbers.{covers_without}
use Rattle.press_events.proofs.Schedules.{schedule_removed}
use Rattle.press_events.proofs.Shifting.{went_fits, in_again}
use Rattle.press_events.proofs.events.Events.leave.Goals as goal

pub invariant_of-self : goal.invariant_of-self
invariant_of-self c =
    let lt : c.args.place < length c.self.inside.events.items = subst (λ (es : List Event). c.args.place < length es) (sym c.self.view_is) c.requires in
    rw c.remove-event.ensures.items (
      schedule_removed c.self.inside.events.items c.args.place lt c.self.invariant.0,
      covers_without c.self.inside.events.items c.args.place c.remove-event.result c.self.inside.marks c.remove.new.self c.mark.result lt c.remove-event.ensures.value (c.mark.ensures ∙ ap mark c.as_str.ensures)
          c.self.invariant.1 c.remove.ensures,
    )

pub returns-clause-back : goal.returns-clause-back
returns-clause-back c =
    let es : List Event = c.self.inside.events.items in
    let i = c.args.place in
    let e : Event = c.remove-event.result in
    let lt : i < length es = subst (λ (es : List Event). i < length es) (sym c.self.view_is) c.requires in
    let room : length (remove es i) < vec_capacity c.in_ok-room.room = omega (arith, length-remove es i lt, c.in_ok-room.ensures.capacity, c.len.ensures) in
    let numbers : length (remove es i) < vec_capacity c.in_ok-marks.marks = omega (arith, length-remove es i lt, c.in_ok-marks.ensures.capacity, c.len-2.ensures) in
    let shift = Went i e c.in_ok-room.room c.in_ok-marks.marks in
    subst (λ (old : List Event). ShiftsBack shift c.remove-event.new.self.items old) c.self.view_is
    (subst (λ (xs : List Event). ShiftsBack shift xs es) (sym c.remove-event.ensures.items)
    ((went_fits es i e lt c.remove-event.ensures.value c.self.invariant.0, (c.in_ok-room.ensures.items, room), (c.in_ok-marks.ensures.items, numbers)), in_again es i e lt c.remove-event.ensures.value))

use Rattle.std.proofs.Common.{◌≡◌, ◌∙◌, ◌+◌, ◌<◌, ◌≤◌, ap, sym, subst, false, List, length}
use Rattle.press_events.specs.DueEvents.{stands}
use Rattle.press_events.specs.Shifts.{ShiftsBack}
use Rattle.press_events.specs.declared.event.Event.{Event}
use Rattle.press_events.specs.declared.shift.Shift.TheVariants.{Came}
use Rattle.press_events.specs.Marks.{count_of, mark, one}
use Rattle.press_events.proofs.Numbers.{covers_put, covers_still}
use Rattle.press_events.proofs.Schedules.{schedule_scheduled}
use Rattle.press_events.proofs.Shifting.{came}
use Rattle.press_events.proofs.events.Events.put_in.Goals as goal

pub returns-clause-back : goal.returns-clause-back
returns-clause-back c =
    let es : List Event = c.self.inside.events.items in
    let le : c.place_in-place.result ≤ length es = subst (λ (xs : List Event). c.place_in-place.result ≤ length xs) c.deref.ensures.value c.place_in-place.ensures.within in
    subst (λ (old : List Event). ShiftsBack (Came c.place_in-place.result) c.insert.new.self.items old) c.self.view_is
    (subst (λ (xs : List Event). ShiftsBack (Came c.place_in-place.result) xs es) (sym c.in-Ok-insert.ensures.items) (came es c.place_in-place.result c.args.event le))

pub invariant_of-self : goal.invariant_of-self
invariant_of-self c = rw c.in_default.ensures.err c.self.invariant

pub invariant_of-self-in-Ok-insert : goal.invariant_of-self-in-Ok-insert
invariant_of-self-in-Ok-insert c =
    let es : List Event = c.self.inside.events.items in
    let new : stands c.args.event es ≡ false = subst (λ (es : List Event). stands c.args.event es ≡ false) (sym c.self.view_is) c.requires.new in
    let room : length es < 4096 = subst (λ (es : List Event). length es < 4096) (sym c.self.view_is) c.requires.room in
    rw c.in-Ok-insert.ensures.items (
      rw (c.place_in-place.ensures.place, c.deref.ensures.value) (schedule_scheduled c.args.event es c.requires.short new room c.self.invariant.0),
      covers_put c.args.event c.self.inside.events.items c.place_in-place.result c.self.inside.marks c.add.new.self c.self.invariant.1
          (λ x. c.in-Ok.ensures.ok x ∙ ap (λ m. count_of x c.self.inside.marks + one x m) (c.mark-mark.ensures ∙ ap mark c.as_str.ensures)),
    )

pub invariant_of-self-in_default-insert : goal.invariant_of-self-in_default-insert
invariant_of-self-in_default-insert c =
    rw c.in_default-insert.ensures.items (
      c.self.invariant.0,
      covers_still c.mark-mark.result c.self.inside.events.items c.self.inside.marks c.add.new.self c.remove.new.self c.self.invariant.1 c.in-Ok.ensures.ok c.remove.ensures,
    )

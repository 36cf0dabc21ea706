use Rattle.std.proofs.Common.{◌∙◌, ap, sym, subst, refl, List}
use Rattle.std.specs.Prelude.{insert}
use Rattle.press_events.specs.DueEvents.{IsSchedule}
use Rattle.press_events.specs.Shifts.{MayShiftBack, shift_back}
use Rattle.press_events.specs.declared.event.Event.{Event}
use Rattle.press_events.specs.declared.shift.Shift.TheVariants.{Moved}
use Rattle.press_events.proofs.Shifting.{back_at, covers_moved}
use Rattle.press_events.proofs.events.Events.move_back.Goals as goal

pub invariant_of-self : goal.invariant_of-self
invariant_of-self c =
    let es : List Event = c.self.inside.events.items in
    let may = subst (MayShiftBack (Moved c.args.to c.args.from c.args.time c.args.every)) (sym c.self.view_is) c.requires in
    let new : Event = record c.remove-event.result { time = c.args.time; every = c.args.every } in
    rw (c.in-Ok.ensures.items, c.remove-event.ensures.items) (
      subst IsSchedule (sym (back_at es c.args.to c.args.from c.args.time c.args.every c.remove-event.result may.0 c.remove-event.ensures.value)) may.2,
      covers_moved es c.args.to c.args.from c.remove-event.result new c.self.inside.marks may.0 c.remove-event.ensures.value refl c.self.invariant.1,
    )

pub returns : goal.returns
returns c =
    let es : List Event = c.self.inside.events.items in
    let may = subst (MayShiftBack (Moved c.args.to c.args.from c.args.time c.args.every)) (sym c.self.view_is) c.requires in
    let new : Event = record c.remove-event.result { time = c.args.time; every = c.args.every } in
    c.in-Ok.ensures.items ∙ ap (λ (xs : List Event). insert xs c.args.from new) c.remove-event.ensures.items
    ∙ back_at es c.args.to c.args.from c.args.time c.args.every c.remove-event.result may.0 c.remove-event.ensures.value
    ∙ ap (shift_back (Moved c.args.to c.args.from c.args.time c.args.every)) c.self.view_is

use Rattle.std.proofs.Common.{◌∙◌, ◌<◌, ap, sym, subst, length, List}
use Rattle.press_events.specs.Marks.{mark}
use Rattle.press_events.specs.declared.event.Event.{Event}
use Rattle.press_events.proofs.Numbers.{covers_without}
use Rattle.press_events.proofs.Schedules.{schedule_removed}
use Rattle.press_events.proofs.events.Events.take_out.Goals as goal

pub invariant_of-self : goal.invariant_of-self
invariant_of-self c =
    let lt : c.args.place < length c.self.inside.events.items = subst (λ (es : List Event). c.args.place < length es) (sym c.self.view_is) c.requires in
    rw c.remove-taken.ensures.items (
      schedule_removed c.self.inside.events.items c.args.place lt c.self.invariant.0,
      covers_without c.self.inside.events.items c.args.place c.remove-taken.result c.self.inside.marks c.remove.new.self c.mark.result lt c.remove-taken.ensures.value (c.mark.ensures ∙ ap mark c.as_str.ensures)
          c.self.invariant.1 c.remove.ensures,
    )

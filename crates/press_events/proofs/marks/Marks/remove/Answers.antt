use Rattle.press_events.proofs.Numbers.{hit, missed, not_there, rises_without}
use Rattle.press_events.proofs.marks.Marks.remove.Goals as goal

pub invariant_of-self : goal.invariant_of-self
invariant_of-self c =
    let h = hit c.args.mark c.self.inside.marks.items c.deref.result.now c.in-Ok.place c.deref.ensures.value c.in-Ok.ensures.position c.self.invariant in
    rw c.remove.ensures.items (rises_without c.self.inside.marks.items c.in-Ok.place h.0 c.self.invariant)

pub returns-in_default : goal.returns-in_default
returns-in_default c = λ x.
    let h = missed c.args.mark c.self.inside.marks.items c.deref.result.now c.in_default.field-0 c.deref.ensures.value c.in_default.ensures.position c.self.invariant in
    rw (← c.self.view_is) (not_there c.args.mark x c.self.inside.marks.items h)

use Rattle.std.proofs.Common.{refl}
use Rattle.press_events.proofs.Numbers.{hit, missed, there}
use Rattle.press_events.proofs.marks.Marks.has.Goals as goal

pub returns-in-Ok : goal.returns-in-Ok
returns-in-Ok c =
    let h = hit c.args.mark c.self.inside.marks.items c.deref.result.now c.in-Ok.field-0 c.deref.ensures.value c.in-Ok.ensures.position c.self.invariant in
    rw (← c.self.view_is) (there c.args.mark c.self.inside.marks.items c.in-Ok.field-0 h.0 h.1)

pub returns-in-Err : goal.returns-in-Err
returns-in-Err c =
    let h = missed c.args.mark c.self.inside.marks.items c.deref.result.now c.in-Err.field-0 c.deref.ensures.value c.in-Err.ensures.position c.self.invariant in
    rw (← c.self.view_is, h) refl

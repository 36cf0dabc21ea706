use Rattle.press_events.proofs.events.Events.copy.Goals as goal

pub invariant_of-result : goal.invariant_of-result
invariant_of-result c = rw (c.in_ok-copy_all.ensures, c.as_slice.ensures.value, c.in_ok-copy.ensures) c.self.invariant

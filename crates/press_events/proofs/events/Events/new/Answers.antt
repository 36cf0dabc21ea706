use Rattle.std.proofs.Common.{ap, sym}
use Rattle.press_events.specs.Marks.{count_of}
use Rattle.press_events.proofs.Schedules.{schedule_none}
use Rattle.press_events.proofs.events.Events.new.Goals as goal

pub invariant_of-result : goal.invariant_of-result
invariant_of-result c = rw c.new.ensures.items (schedule_none, λ x. sym (ap (count_of x) c.new-2.ensures))

use Rattle.press_events.proofs.Schedules.{schedule_added}
use Rattle.press_events.proofs.laws.schedules_such.Goals as goal

pub returns : goal.returns
returns c = schedule_added

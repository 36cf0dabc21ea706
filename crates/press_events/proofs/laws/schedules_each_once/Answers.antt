use Rattle.press_events.proofs.Once.{once_added}
use Rattle.press_events.proofs.laws.schedules_each_once.Goals as goal

pub returns : goal.returns
returns c = once_added

use Rattle.press_events.proofs.Once.{few_added}
use Rattle.press_events.proofs.laws.schedules_few.Goals as goal

pub returns : goal.returns
returns c = few_added

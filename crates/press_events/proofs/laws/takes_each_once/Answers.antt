use Rattle.press_events.proofs.Once.{once_taken}
use Rattle.press_events.proofs.laws.takes_each_once.Goals as goal

pub returns : goal.returns
returns c = once_taken

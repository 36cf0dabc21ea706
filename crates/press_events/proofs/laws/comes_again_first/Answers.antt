use Rattle.press_events.proofs.Moments.{least_after}
use Rattle.press_events.proofs.laws.comes_again_first.Goals as goal

pub returns : goal.returns
returns c = least_after

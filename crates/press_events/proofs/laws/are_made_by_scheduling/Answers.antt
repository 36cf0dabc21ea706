use Rattle.std.proofs.Common.{[]}
use Rattle.press_events.proofs.Made.{made}
use Rattle.press_events.proofs.laws.are_made_by_scheduling.Goals as goal

pub returns : goal.returns
returns c = λ events s. made events [] s

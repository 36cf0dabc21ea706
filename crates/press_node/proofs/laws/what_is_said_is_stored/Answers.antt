use Rattle.press_node.proofs.Storing.{event_stored}
use Rattle.press_node.proofs.laws.what_is_said_is_stored.Goals as goal

pub returns : goal.returns
returns c = λ members id store node event. event_stored members id store node event

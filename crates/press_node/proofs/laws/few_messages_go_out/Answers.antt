use Rattle.press_node.proofs.Few.{whole_few}
use Rattle.press_node.proofs.laws.few_messages_go_out.Goals as goal

pub returns : goal.returns
returns c = λ store state event whole. whole_few store state event whole

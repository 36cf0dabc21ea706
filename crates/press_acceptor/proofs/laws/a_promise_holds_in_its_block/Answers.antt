use Rattle.press_acceptor.proofs.Blocks.{nothing_below}
use Rattle.press_acceptor.proofs.laws.a_promise_holds_in_its_block.Goals as goal

pub returns : goal.returns
returns c = record { holds = λ store slot vote promised e less. nothing_below store slot vote promised e less }

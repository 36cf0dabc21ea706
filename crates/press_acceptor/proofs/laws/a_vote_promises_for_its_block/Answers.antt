use Rattle.std.proofs.Common.{refl}
use Rattle.press_wire.specs.Blocks.{block_of}
use Rattle.press_acceptor.proofs.Maps.{get_here, get_there}
use Rattle.press_acceptor.proofs.laws.a_vote_promises_for_its_block.Goals as goal

pub returns-clause-own : goal.returns-clause-own
returns-clause-own c store slot vote = get_here store.promises (block_of slot) vote.ballot (block_of slot) refl

pub returns-clause-others : goal.returns-clause-others
returns-clause-others c store slot block vote = λ apart. get_there store.promises (block_of slot) vote.ballot block apart

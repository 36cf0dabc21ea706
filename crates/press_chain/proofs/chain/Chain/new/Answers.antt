use Rattle.press_chain.specs.Chains.{no_digest}
use Rattle.press_chain.proofs.Keeping.{kept_none}
use Rattle.press_chain.proofs.chain.Chain.new.Goals as goal

pub returns-clause-chain : goal.returns-clause-chain
unfolding no_digest
returns-clause-chain c = λ values. rw (c.new-2.ensures.items, c.new.ensures.items) (kept_none values)

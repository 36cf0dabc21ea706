use Rattle.press_chain.specs.Chains.{no_digest}
use Rattle.press_chain.proofs.Keeping.{kept_none}
use Rattle.press_chain.proofs.chain.Chain.clear.Goals as goal

pub returns-clause-chain : goal.returns-clause-chain
unfolding no_digest
returns-clause-chain c = λ values. rw (c.clear-2.ensures.items, c.clear.ensures.items) (kept_none values)

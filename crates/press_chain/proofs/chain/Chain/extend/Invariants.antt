use Rattle.std.proofs.Common.{◌≡◌}
use Rattle.press_chain.specs.Chains.{IsChainOf}
use Rattle.press_chain.proofs.chain.Chain.extend.Given as goal

-- it is of the values before the place
abbrev pub invariant-loop-place : goal.invariant-loop-place
invariant-loop-place l = record {
  at : l.self.count ≡ l.place;
  chain : IsChainOf l.values l.initial.self → IsChainOf l.values l.self;
}

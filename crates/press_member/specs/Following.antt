-- That a member's digests are those of what it has applied (own).
use Rattle.std.specs.Prelude.{◌≡◌, Bool, true, false, length, Result, Ok, Err}
use Rattle.std.specs.declared.alloc.AllocError.{AllocError}
use Rattle.press_chain.specs.Chains.{IsChainOf, count_of}
use Rattle.press_node.specs.States.{NodeState, applied_values}
use Rattle.press_member.specs.Acts.{View}
use Rattle.press_member.specs.declared.output.Outputs.{Outputs}

-- its digests are those of what its node has applied
abbrev pub IsDigested : {N : Type 0} → (N → NodeState) → View N → Type 0
IsDigested state view = IsChainOf (applied_values (state view.node)) view.chain

-- and of all of that
abbrev pub HasAll : {N : Type 0} → (N → NodeState) → View N → Type 0
HasAll state view = count_of view.chain ≡ length (applied_values (state view.node))

-- where its digests are right, they are so after an input too, while the store keeps its word
abbrev pub KeepsDigests : {N : Type 0} → (N → Type 0) → (N → NodeState) → View N → View N → Type 0
KeepsDigests trusted state old new = trusted new.node → IsDigested state old → IsDigested state new

-- what an input came to, where memory was wanting for the digests of what it may have had its node
-- apply
abbrev pub joined : {T : Type 0} → Result Outputs AllocError → Result T AllocError → Bool → Result Outputs AllocError
joined (Err fault) followed may_play = Err fault
joined (Ok outputs) (Ok done) may_play = Ok outputs
joined (Ok outputs) (Err fault) true = Err fault
joined (Ok outputs) (Err fault) false = Ok outputs

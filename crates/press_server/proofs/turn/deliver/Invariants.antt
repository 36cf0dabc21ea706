use Rattle.std.proofs.Common.{◌≡◌, ◌+◌, ℕ}
use Rattle.press_node.specs.Nodes.{kit_of, node_move}
use Rattle.press_server.specs.Turns.{Delivers}
use Rattle.press_server.proofs.turn.deliver.Given as goal

-- whatever comes of what still waits comes of the whole
abbrev pub invariant-loop-count : goal.invariant-loop-count
invariant-loop-count g l = record {
  kit : kit_of l.node ≡ kit_of l.initial.node;
  whole : (left : ℕ) × (left + l.count ≡ l.most)
      × ((after : _) → (fault : _)
      → Delivers (λ a b. node_move g.S.PromiseStore.seen a b) left l.waiting.items l.node after fault
      → Delivers (λ a b. node_move g.S.PromiseStore.seen a b) l.most l.initial.waiting.items l.initial.node after fault);
}

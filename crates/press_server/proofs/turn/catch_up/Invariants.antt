use Rattle.std.proofs.Common.{◌≡◌, ◌-◌}
use Rattle.press_node.specs.Nodes.{kit_of, node_move, state_of}
use Rattle.press_node.specs.States.{applied_count}
use Rattle.press_server.specs.Turns.{CatchesUp}
use Rattle.press_server.proofs.turn.catch_up.Given as goal

-- whatever comes of waking it on comes of the whole
abbrev pub invariant-wakes : goal.invariant-wakes
invariant-wakes g l = record {
  kit : kit_of l.node ≡ kit_of l.initial.node;
  whole : (after : _) → (stop : _)
      → CatchesUp (λ a b. node_move g.S.PromiseStore.seen a b) (λ n. applied_count (state_of n)) l.node after stop
      → CatchesUp (λ a b. node_move g.S.PromiseStore.seen a b) (λ n. applied_count (state_of n)) l.initial.node after stop;
}

-- so many more can be counted
abbrev pub decreases-wakes : goal.decreases-wakes
decreases-wakes g l = 18446744073709551615 - applied_count (state_of l.node)

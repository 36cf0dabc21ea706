use Rattle.std.proofs.Common.{◌≡◌, ℕ}
use Rattle.std.specs.Prelude.{IsTrue, true}
use Rattle.press_node.specs.Nodes.{kit_of, node_move}
use Rattle.press_member.specs.Played.{moment_of}
use Rattle.press_member.specs.Turns.{Turned}
use Rattle.press_member.proofs.Turning.{HearsMany}
use Rattle.press_member.proofs.player.Player.hear_own.Given as goal

-- so far it is one turn, which heard as many as were counted
abbrev pub invariant-loop-count : goal.invariant-loop-count
invariant-loop-count g l = record {
  id : l.self.id ≡ l.initial.self.id;
  kit : kit_of l.self.node ≡ kit_of l.initial.self.node;
  turned : (n : ℕ) → Turned (λ a b. node_move g.S.PromiseStore.seen a b) n l.initial.self.id (HearsMany l.count) (IsTrue true) (moment_of l.initial.self) (moment_of l.self) l.initial.out.items l.out.items;
}

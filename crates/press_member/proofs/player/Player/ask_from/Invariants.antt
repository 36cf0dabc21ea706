use Rattle.std.proofs.Common.{◌≡◌, ℕ}
use Rattle.std.specs.Prelude.{IsTrue, true}
use Rattle.press_acceptor.specs.Trace.{IsMember}
use Rattle.press_node.specs.Nodes.{node_move}
use Rattle.press_member.specs.Played.{moment_of}
use Rattle.press_member.specs.Turns.{AreQuestions, Turned}
use Rattle.press_member.proofs.player.Player.ask_from.Given as goal

-- so far it is one turn
abbrev pub invariant-loop-number : goal.invariant-loop-number
invariant-loop-number g l = record {
  node : l.self.node ≡ l.initial.self.node;
  id : l.self.id ≡ l.initial.self.id;
  turned : (n : ℕ) → IsMember n l.fn.to → Turned (λ a b. node_move g.S.PromiseStore.seen a b) n l.initial.self.id AreQuestions (IsTrue true) (moment_of l.initial.self) (moment_of l.self) l.initial.out.items l.out.items;
}

use Rattle.std.specs.Prelude.{◌≡◌, IsTrue, true}
use Rattle.press_node.specs.Nodes.{node_move}
use Rattle.press_member.specs.Acts.{view_of}
use Rattle.press_member.specs.Parts.{IsSame, Turns}
use Rattle.press_member.specs.Turns.{AreQuestions}
use Rattle.press_member.proofs.member.Member.ask.Given as goal

-- so far it is one turn
abbrev pub invariant-loop-place : goal.invariant-loop-place
invariant-loop-place g l = record {
  same : IsSame (λ a b. node_move g.S.PromiseStore.seen a b) (view_of l.initial.self) (view_of l.self);
  turned : Turns (λ a b. node_move g.S.PromiseStore.seen a b) (view_of l.initial.self) (view_of l.self) AreQuestions l.initial.out.items l.out.items (IsTrue true);
  time : l.self.time ≡ l.initial.self.time;
}

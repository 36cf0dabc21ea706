use Rattle.std.proofs.Common.{◌≡◌, ◌⊎◌, IsSome, length}
use Rattle.press_callbacks.specs.Kits.{kit_view}
use Rattle.press_learner.specs.Chosen.{chosen_next}
use Rattle.press_node.specs.Views.{IsUpFolded, running_of}
use Rattle.press_node.proofs.Settling.{SettlesOn}
use Rattle.press_node.proofs.up.Up.settle.Given as goal

abbrev pub invariant-loop-i : goal.invariant-loop-i
invariant-loop-i g l = record {
  id : l.self.proposer.id ≡ l.initial.self.proposer.id;
  members : l.self.proposer.members ≡ l.initial.self.proposer.members;
  learner_members : l.self.learner.members ≡ l.initial.self.learner.members;
  count : l.self.learner.applied ≡ length l.self.values.items;
  first : ((l.i ≡ 0) × (l.self.learner ≡ l.initial.self.learner)) ⊎ IsSome (chosen_next l.initial.self.learner);
  settles : SettlesOn l.i (running_of l.self) (running_of l.initial.self);
  folded : IsUpFolded (kit_view l.kit) l.initial.self → IsUpFolded (kit_view l.kit) l.self;
}

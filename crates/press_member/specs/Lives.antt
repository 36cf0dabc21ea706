-- A life of a member: inputs, one after the other, and what the others do between them (own).
use Rattle.std.specs.Prelude.{ℕ, ◌≡◌, ◌≢◌, List, [], ◌∷◌, ◌++◌, Result, IfOk}
use Rattle.std.specs.List.{AllByRecursion}
use Rattle.std.specs.declared.alloc.AllocError.{AllocError}
use Rattle.press_wire.specs.declared.message.Message.{Message}
use Rattle.press_acceptor.specs.Seen.{Seen}
use Rattle.press_node.specs.Nodes.{NodeMove}
use Rattle.press_node.specs.States.{NodeState}
use Rattle.press_member.specs.Acts.{Acts, View}
use Rattle.press_member.specs.Among.{AreBy, AreSent, IsAmong, IsBy}
use Rattle.press_member.specs.Coming.{AreItsMoves, heard_in}
use Rattle.press_member.specs.Members.{AreMoves, Members, Move, after_all}
use Rattle.press_member.specs.declared.input.Input.{Input}
use Rattle.press_member.specs.declared.output.Outputs.{Outputs}

-- An input comes to a member, this is returned, and the member is this then.
pub record Step (N : Type 0) : Type 0 where
  pub input : Input
  pub result : Result Outputs AllocError
  pub next : View N

-- the move is one of another member than that at this index
abbrev pub IsOfOther : {S : Type 0} → ℕ → Move S → Type 0
IsOfOther index move = (other : ℕ) × (index ≢ other) × IsBy other move

-- each of these is
abbrev pub AreOfOthers : {S : Type 0} → ℕ → List (Move S) → Type 0
AreOfOthers index moves = AllByRecursion (IsOfOther index) moves

module _ {S N : Type 0} (seen : S → Seen) (moved : N → N → NodeMove) (store : N → S) (state : N → NodeState) where
  -- by these steps the member comes from one view to the other
  abbrev pub Lives : List (Step N) → View N → View N → Type 0
  Lives [] old new = new ≡ old
  Lives (s ∷ steps) old new = Acts moved s.input old s.next s.result × AreItsMoves seen store state s.input old s.next s.result × Lives steps s.next new

  -- Behind what the others did a step is some moves of the member's own; and what it has to hear of
  -- itself then, and what goes out, was sent.
  pub record Follows (n index : ℕ) (w : Members S) (others : List (Move S)) (s : Step N) : Type 0 where
    pub out : List Message
    pub sends : IfOk s.result (λ outputs. outputs.messages.items ≡ out)
    pub own : List (Move S)
    pub are : AreMoves seen n w (others ++ own)
    pub by : AreBy index own
    pub is_among : IsAmong seen (after_all w (others ++ own)) index (store s.next.node) (state s.next.node) (record { own = s.next.own; out = out }) []

  -- Whatever the others do before each step, all of it is moves, where what an input brings was
  -- sent and the store keeps its word.
  abbrev pub LivesAmong : ℕ → ℕ → List (Step N) → Members S → Type 0
  LivesAmong n index [] w = Unit {0}
  LivesAmong n index (s ∷ steps) w =
      (others : List (Move S)) → AreMoves seen n w others → AreOfOthers index others → AreSent (after_all w others).sent (heard_in s.input) → (seen (store s.next.node)).is_honest →
      (f : Follows n index w others s) × LivesAmong n index steps (after_all w (others ++ f.own))

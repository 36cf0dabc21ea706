-- What an input does to a member, as moves of the members (own).
use Rattle.std.specs.Prelude.{ℕ, ◌+◌, ◌<◌, ◌≡◌, List, [], ◌∷◌, Result, IfOk}
use Rattle.std.specs.declared.alloc.AllocError.{AllocError}
use Rattle.press_wire.specs.declared.message.Message.{Message}
use Rattle.press_acceptor.specs.Seen.{Seen}
use Rattle.press_node.specs.States.{NodeState}
use Rattle.press_member.specs.Acts.{View}
use Rattle.press_member.specs.Among.{AreBy, IsAmong}
use Rattle.press_member.specs.Members.{AreMoves, Members, Move, after_all}
use Rattle.press_member.specs.declared.input.Input.{Input}
use Rattle.press_member.specs.declared.input.Input.TheVariants.{Command, Page, Message as Letter, Report, Ended, HearOwn, Time}
use Rattle.press_member.specs.declared.output.Outputs.{Outputs}

-- the messages that an input brings
abbrev pub heard_in : Input → List Message
heard_in (Command command) = []
heard_in (Page target) = []
heard_in (Letter message) = message ∷ []
heard_in (Report from report) = []
heard_in (Ended to asked is_taken) = []
heard_in HearOwn = []
heard_in (Time now) = []

module _ {S : Type 0} (seen : S → Seen) where
  -- by some moves of its own it comes to this store and state; and what it has to hear of itself
  -- then, and what goes out, was sent
  pub record ComesTo (n : ℕ) (w : Members S) (index : ℕ) (store : S) (state : NodeState) (own out : List Message) : Type 0 where
    pub moves : List (Move S)
    pub are : AreMoves seen n w moves
    pub by : AreBy index moves
    pub is_among : IsAmong seen (after_all w moves) index store state (record { own = own; out = out }) []

  -- Of members among whom it is the one at an index, where what the input brings was sent, an input
  -- is some moves of this one, if its store is honest.
  abbrev pub AreItsMoves : {N : Type 0} → (N → S) → (N → NodeState) → Input → View N → View N → Result Outputs AllocError → Type 0
  AreItsMoves store state input old new result =
      (index : ℕ) (w : Members S) → old.id ≡ index + 1 → index < old.members → IsAmong seen w index (store old.node) (state old.node) (record { own = old.own; out = [] }) (heard_in input) →
      (seen (store new.node)).is_honest →
      (out : List Message) × IfOk result (λ outputs. outputs.messages.items ≡ out) × ComesTo old.members w index (store new.node) (state new.node) new.own out

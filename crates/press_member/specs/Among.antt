-- A member among the members, with the messages that it has waiting (own).
use Rattle.std.specs.Prelude.{ℕ, ◌+◌, ◌≡◌, ◌⊎◌, IsTrue, Some, List, [], ◌∷◌, slice_get}
use Rattle.std.specs.List.{AllByRecursion}
use Rattle.press_wire.specs.declared.message.Message.{Message}
use Rattle.press_acceptor.specs.Seen.{Seen}
use Rattle.press_node.specs.States.{NodeState, running_in}
use Rattle.press_member.specs.Members.{IsSent, Members, Move, WhileUp}
use Rattle.press_member.specs.Members.Holding.{Over}
use Rattle.press_member.specs.Members.Move.{Acts, Breaks, Starts, Asks}

-- What a member has waiting: messages for itself, and for others.
pub record Letters : Type 0 where
  pub own : List Message
  pub out : List Message

-- the message is in the list
abbrev pub IsIn : List Message → Message → Type 0
IsIn [] message = ⊥
IsIn (m ∷ ms) message = (m ≡ message) ⊎ IsIn ms message

-- each of these was sent
abbrev pub AreSent : List Message → List Message → Type 0
AreSent sent ms = (m : Message) → IsIn ms m → IsSent sent m

-- the move is one of the member at this index
abbrev pub IsBy : {S : Type 0} → ℕ → Move S → Type 0
IsBy index (Acts j event outcome store state) = j ≡ index
IsBy index (Breaks j event left out state) = j ≡ index
IsBy index (Starts j store state) = j ≡ index
IsBy index (Asks from to slot) = from ≡ index + 1

-- each of these is
abbrev pub AreBy : {S : Type 0} → ℕ → List (Move S) → Type 0
AreBy index moves = AllByRecursion (IsBy index) moves

-- The member at this index has this store and state; what it has waiting was sent, and so was what
-- it heard.
pub record IsAmong {S : Type 0} (seen : S → Seen) (w : Members S) (index : ℕ) (store : S) (state : NodeState) (mail : Letters) (heard : List Message) : Type 0 where
  pub at : slice_get w.all index ≡ Some (record { store = Over store; state = state })
  pub is_open : WhileUp (running_in state) (IsTrue (seen store).is_open)
  pub own : AreSent w.sent mail.own
  pub out : AreSent w.sent mail.out
  pub heard_of : AreSent w.sent heard

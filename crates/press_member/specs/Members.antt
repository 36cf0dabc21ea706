-- Members of a cluster, each over a store of its own, of any kind: what one of them does, how it
-- starts again after a stop, and the questions between them (own).
use Rattle.std.specs.Prelude.{ℕ, zero, suc, ◌+◌, ◌≡◌, ◌⊎◌, IsTrue, Option, None, Some, List, [], ◌∷◌, ◌++◌, slice_get, slice_set, take, Result, Ok, Err}
use Rattle.press_wire.specs.declared.message.Body.TheVariants.{Query}
use Rattle.press_wire.specs.declared.message.Message.{Message}
use Rattle.press_acceptor.specs.Seen.{Seen}
use Rattle.press_acceptor.specs.StoreMap.{StoreMap, Only, new_store, with_any_save}
use Rattle.press_acceptor.specs.Trace.{IsMember}
use Rattle.press_acceptor.specs.Turned.{store_move}
use Rattle.press_node.specs.NodeEvent.{Answer, RunningNode, on_event}
use Rattle.press_node.specs.Nodes.{IsPlayed}
use Rattle.press_node.specs.Plays.{Plays, state_move}
use Rattle.press_node.specs.Refusals.{refusal}
use Rattle.press_node.specs.States.{NodeState, running_in, started_at, stopped_state}
use Rattle.press_node.specs.declared.event.Event.{Event}
use Rattle.press_node.specs.declared.event.Event.TheVariants as event
use Rattle.press_node.specs.declared.fault.NodeFault.{NodeFault}

-- What there is of a member's store: the store as it was last, or what a stop within an event left
-- of it.
pub data Holding (S : Type 0) : Type 0 where
  Over : (store : S) → Holding S
  Leaves : (left : StoreMap) → Holding S

-- A member: its store, and the rest of its node.
pub record Member (S : Type 0) : Type 0 where
  pub store : Holding S
  pub state : NodeState

-- All members, and what they sent.
pub record Members (S : Type 0) : Type 0 where
  -- the one at index i is member i + 1
  pub all : List (Member S)
  -- each message that was ever sent
  pub sent : List Message

-- What happens. A stop between two events needs no move of its own: it is the start after it that
-- shows what it left.
pub data Move (S : Type 0) : Type 0 where
  -- a member plays an event, with this outcome, and has this store and this state after it
  Acts : (index : ℕ) (event : Event) (outcome : Result (List Message) NodeFault) (store : S) (state : NodeState) → Move S
  -- a member is stopped within an event, when its store had come to this and these messages were
  -- out
  Breaks : (index : ℕ) (event : Event) (left : StoreMap) (out : List Message) (state : NodeState) → Move S
  -- a member was stopped, or never ran, and starts over this store
  Starts : (index : ℕ) (store : S) (state : NodeState) → Move S
  -- a member asks another about a slot, without an event of its node
  Asks : (from to slot : ℕ) → Move S

-- ---- what each move makes of the members

-- the messages of an outcome
abbrev pub out_of : Result (List Message) NodeFault → List Message
out_of (Ok out) = out
out_of (Err fault) = []

-- a question, which asks a member for its vote for a slot
abbrev pub question : ℕ → ℕ → ℕ → Message
question from to slot = record { from = from; to = to; slot = slot; body = Query }

-- the members after a move: at most one of them changes, and what was sent stays
abbrev pub after : {S : Type 0} → Members S → Move S → Members S
after w (Acts index event outcome store state) = record { all = slice_set w.all index (record { store = Over store; state = state }); sent = w.sent ++ out_of outcome }
after w (Breaks index event left out state) = record { all = slice_set w.all index (record { store = Leaves left; state = state }); sent = w.sent ++ out }
after w (Starts index store state) = record { all = slice_set w.all index (record { store = Over store; state = state }); sent = w.sent }
after w (Asks from to slot) = record { all = w.all; sent = w.sent ++ question from to slot ∷ [] }

-- and after one move after another
abbrev pub after_all : {S : Type 0} → Members S → List (Move S) → Members S
after_all w [] = w
after_all w (m ∷ moves) = after_all (after w m) moves

-- ---- which moves there are

-- the message was sent
abbrev pub IsSent : List Message → Message → Type 0
IsSent sent message = (which : ℕ) × (slice_get sent which ≡ Some message)

-- a message that comes is any of those that were ever sent
abbrev pub Comes : List Message → Event → Type 0
Comes sent (event.Submit command) = Unit {0}
Comes sent event.Wake = Unit {0}
Comes sent (event.Deliver message) = IsSent sent message

-- while it runs
abbrev pub WhileUp : Option RunningNode → Type 0 → Type 0
WhileUp None P = Unit {0}
WhileUp (Some node) P = P

-- what a stop of a member may leave of its store
abbrev pub MayLeave : {S : Type 0} → (S → Seen) → Holding S → StoreMap → Type 0
MayLeave seen (Over store) left = (seen store).may_leave left
MayLeave seen (Leaves kept) left = left ≡ kept

module _ {S : Type 0} (seen : S → Seen) where
  -- The event did to node and store what each node says of it, over a store that is honest.
  pub record IsEvent (sent : List Message) (old new : S) (state state_after : NodeState) (event : Event) (outcome : Result (List Message) NodeFault) : Type 0 where
    pub comes : Comes sent event
    pub played : IsPlayed state state_after (Plays (store_move seen old new) (state_move state state_after) event outcome)
    pub is_honest : (seen new).is_honest

  -- It is an event of the member at this index.
  pub record ActsAt (w : Members S) (index : ℕ) (event : Event) (outcome : Result (List Message) NodeFault) (store : S) (state : NodeState) : Type 0 where
    pub before : S
    pub state_before : NodeState
    pub at : slice_get w.all index ≡ Some (record { store = Over before; state = state_before })
    pub is : IsEvent w.sent before store state_before state event outcome

  -- Before the save a stop leaves what it might have left before the event, and nothing is out;
  -- after it the save is made, and so many of the messages are out.
  abbrev pub BreaksBy : S → Answer → Option NodeFault → StoreMap → List Message → Type 0
  BreaksBy s answer refused left out =
      ((seen s).may_leave left × (out ≡ []))
      ⊎ ((count : ℕ) × (refused ≡ None) × (left ≡ with_any_save (seen s).kept answer.save) × (out ≡ take count answer.out))

  -- The member at this index was stopped within the event, and is down.
  pub record BreaksAt (n : ℕ) (w : Members S) (index : ℕ) (event : Event) (left : StoreMap) (out : List Message) (state : NodeState) : Type 0 where
    pub before : S
    pub state_before : NodeState
    pub node : RunningNode
    pub at : slice_get w.all index ≡ Some (record { store = Over before; state = state_before })
    pub up : running_in state_before ≡ Some node
    pub comes : Comes w.sent event
    pub is_down : state ≡ stopped_state state_before
    pub breaks : BreaksBy before (on_event n (index + 1) (seen before).kept node event) (refusal (seen before).kept (Some node) event) left out

  -- The store shows what a stop may have left, and a crash leaves nothing else; the node has just
  -- started.
  pub record StartsAt (n : ℕ) (w : Members S) (index : ℕ) (store : S) (state : NodeState) : Type 0 where
    pub before : Member S
    pub at : slice_get w.all index ≡ Some before
    pub left : MayLeave seen before.store (seen store).kept
    pub is_open : IsTrue (seen store).is_open
    pub durable : Only (seen store).kept (seen store).may_leave
    pub started : state ≡ started_at (index + 1) n (seen store).kept.last_round

  -- it is a move that one of n members can make
  abbrev pub IsMove : ℕ → Members S → Move S → Type 0
  IsMove n w (Acts index event outcome store state) = ActsAt w index event outcome store state
  IsMove n w (Breaks index event left out state) = BreaksAt n w index event left out state
  IsMove n w (Starts index store state) = StartsAt n w index store state
  IsMove n w (Asks from to slot) = IsMember n from × IsMember n to

  -- each is a move of the members as those before it left them
  abbrev pub AreMoves : ℕ → Members S → List (Move S) → Type 0
  AreMoves n w [] = Unit {0}
  AreMoves n w (m ∷ moves) = IsMove n w m × AreMoves n (after w m) moves

-- ---- the beginning

-- none of n members has started, and nothing is in their stores
abbrev pub unstarted_members : {S : Type 0} → ℕ → ℕ → ℕ → List (Member S)
unstarted_members n id zero = []
unstarted_members n id (suc more) = record { store = Leaves new_store; state = record { id = id; members = n; up = None } } ∷ unstarted_members n (id + 1) more

-- before anything happened
abbrev pub new_members : {S : Type 0} → ℕ → Members S
new_members n = record { all = unstarted_members n 1 n; sent = [] }

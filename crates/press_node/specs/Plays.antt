-- What an event did to a node and its store: the one word for it, from what is in memory to a
-- connection (own).
--
-- An event that is refused without the store changes nothing. Any other is done, as *Node event*
-- has it; or a fault of the store, or out of memory, stops the node; or a wake finds that no round
-- is left.
use Rattle.std.specs.Prelude.{ℕ, ◌≡◌, ◌⊎◌, Option, None, Some, List, Result, Ok, Err, MatchResult}
use Rattle.press_wire.specs.declared.message.Message.{Message}
use Rattle.press_acceptor.specs.StoreMap.{StoreMap}
use Rattle.press_acceptor.specs.Turned.{Plan, StoreMove, Trusts, Turned, store_move}
use Rattle.press_acceptor.specs.Seen.{Seen}
use Rattle.press_acceptor.specs.declared.fault.StoreFault.{StoreFault}
use Rattle.press_proposer.specs.Wakes.{last_round_plan}
use Rattle.press_node.specs.declared.event.Event.{Event}
use Rattle.press_node.specs.declared.fault.NodeFault.{NodeFault}
use Rattle.press_node.specs.declared.fault.NodeFault.TheVariants.{Down, RoundsUsedUp}
use Rattle.press_node.specs.EventPlans.{WantsRound, event_plan}
use Rattle.press_node.specs.Faults.{of_store}
use Rattle.press_node.specs.NodeEvent.{RunningNode, Answer, on_event}
use Rattle.press_node.specs.Refusals.{refusal_up, refusal_by_rounds}
use Rattle.press_node.specs.States.{NodeState, running_in, stopped_state}

-- A node's memory, before and after.
pub record MemoryMove : Type 1 where
  pub id : ℕ
  pub members : ℕ
  -- what was in it; none where the node was down
  pub before : Option RunningNode
  -- it is the very same
  pub same : Type 0
  -- this is in it
  pub has : RunningNode → Type 0
  -- the node is down
  pub down : Type 0

abbrev pub state_move : NodeState → NodeState → MemoryMove
state_move old new = record {
  id = old.id;
  members = old.members;
  before = running_in old;
  same = new ≡ old;
  has = λ node. running_in new ≡ Some node;
  down = new ≡ stopped_state old;
}

-- the messages of a result
abbrev pub messages_of_result : {T : Type 0} → (T → List Message) → Result T NodeFault → Result (List Message) NodeFault
messages_of_result messages (Ok out) = Ok (messages out)
messages_of_result messages (Err fault) = Err fault

-- The event was done: what the definition has is sent, in memory and stored, where what the store
-- answers counts.
pub record IsDone (plan : Plan) (answer : StoreMap → Answer) (refused : StoreMap → Option NodeFault) (store : StoreMove) (node : MemoryMove) (out : List Message) : Type 0 where
  pub turned : Turned plan store None
  pub sent : Trusts plan.calls store → out ≡ (answer store.old.kept).out
  pub memory : Trusts plan.calls store → node.has (answer store.old.kept).after
  pub passed : Trusts plan.calls store → refused store.old.kept ≡ None

-- The event was ended by a fault of the store or by running out of memory: the node is down. Where
-- no round was left, that is the store's answer to the question for the last one.
pub record IsStopped (plan : Plan) (refused : StoreMap → Option NodeFault) (store : StoreMove) (node : MemoryMove) (fault : NodeFault) : Type 0 where
  pub by : StoreFault
  pub is : fault ≡ of_store by
  pub down : node.down
  pub turned : Turned plan store (Some by)
  pub last : store.new.is_honest → refused store.old.kept ≡ Some RoundsUsedUp → Turned last_round_plan store (Some by)

-- A round was wanted and none is left: the store was asked for the last one, and nothing changed.
pub record IsLast (Wants : Type 0) (refused : StoreMap → Option NodeFault) (store : StoreMove) (node : MemoryMove) (fault : NodeFault) : Type 0 where
  pub is : fault ≡ RoundsUsedUp
  pub wanted : Wants
  pub same : node.same
  pub turned : Turned last_round_plan store None
  pub none_left : store.new.is_honest → refused store.old.kept ≡ Some RoundsUsedUp

abbrev pub PlaysBy : Plan → (StoreMap → Answer) → Type 0 → (StoreMap → Option NodeFault) → StoreMove → MemoryMove → Result (List Message) NodeFault → Type 0
PlaysBy plan answer wants refused store node outcome =
    MatchResult outcome
    (λ out. IsDone plan answer refused store node out)
    (λ fault. IsStopped plan refused store node fault ⊎ IsLast wants refused store node fault)

-- refused without the store: nothing changed
abbrev pub IsRefused : NodeFault → StoreMove → MemoryMove → Result (List Message) NodeFault → Type 0
IsRefused fault store node outcome = (outcome ≡ Err fault) × node.same × store.same

abbrev pub PlaysUp : Option NodeFault → RunningNode → StoreMove → MemoryMove → Event → Result (List Message) NodeFault → Type 0
PlaysUp (Some fault) running store node event outcome = IsRefused fault store node outcome
PlaysUp None running store node event outcome =
    PlaysBy (event_plan node.members node.id running event)
    (λ kept. on_event node.members node.id kept running event)
    (WantsRound running event)
    (λ kept. refusal_by_rounds kept running event)
    store node outcome

abbrev pub PlaysWhere : Option RunningNode → StoreMove → MemoryMove → Event → Result (List Message) NodeFault → Type 0
PlaysWhere None store node event outcome = IsRefused Down store node outcome
PlaysWhere (Some running) store node event outcome = PlaysUp (refusal_up running event) running store node event outcome

abbrev pub Plays : StoreMove → MemoryMove → Event → Result (List Message) NodeFault → Type 0
Plays store node event outcome = PlaysWhere node.before store node event outcome

-- ---- as the calls cite it

-- of a node's state, over a store of its own
abbrev pub StatePlays : {S T : Type 0} → (S → Seen) → S → S → NodeState → NodeState → Event → (T → List Message) → Result T NodeFault → Type 0
StatePlays seen store store_after old new event messages result = Plays (store_move seen store store_after) (state_move old new) event (messages_of_result messages result)

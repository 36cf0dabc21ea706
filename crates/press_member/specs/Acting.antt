-- What an event does to a member over any store that is honest.
use Rattle.std.specs.Prelude.{ℕ, ◌≡◌, ◌⊎◌, IsTrue, Option, None, Some, List, [], Result, Ok}
use Rattle.press_wire.specs.declared.message.Message.{Message}
use Rattle.press_acceptor.specs.Seen.{Seen}
use Rattle.press_acceptor.specs.StoreMap.{StoreMap, Only, Save, with_save, with_any_save}
use Rattle.press_node.specs.NodeEvent.{Answer, RunningNode, on_event}
use Rattle.press_node.specs.Refusals.{refusal}
use Rattle.press_node.specs.States.{NodeState, running_in}
use Rattle.press_node.specs.declared.event.Event.{Event}
use Rattle.press_node.specs.declared.fault.NodeFault.{NodeFault}
use Rattle.press_member.specs.Members.{out_of}

module _ {S : Type 0} (seen : S → Seen) where
  -- The store is open and keeps this, and a crash leaves nothing else.
  pub record IsSettled (s : S) (kept : StoreMap) : Type 0 where
    pub is_open : IsTrue (seen s).is_open
    pub keeps : (seen s).kept ≡ kept
    pub only : Only kept (seen s).may_leave

  -- The event was done, as its definition has it: nothing refused it, and its save is made.
  pub record Does (t : S) (kept : StoreMap) (a : Answer) (refused : Option NodeFault) (up : Option RunningNode) (outcome : Result (List Message) NodeFault) : Type 0 where
    pub passes : refused ≡ None
    pub sends : outcome ≡ Ok a.out
    pub goes_on : up ≡ Some a.after
    pub settled : IsSettled t (with_any_save kept a.save)

  -- It was refused: nothing is sent, and node and store are as they were.
  pub record Refuses (t : S) (kept : StoreMap) (node : RunningNode) (up : Option RunningNode) (outcome : Result (List Message) NodeFault) : Type 0 where
    pub sends : out_of outcome ≡ []
    pub stays : up ≡ Some node
    pub settled : IsSettled t kept

  -- the save of the event was made in spite of its fault
  abbrev pub IsSaved : StoreMap → Answer → Option NodeFault → StoreMap → Type 0
  IsSaved kept a refused left = (save : Save) × (refused ≡ None) × (a.save ≡ Some save) × (left ≡ with_save kept save)

  -- It stopped the node: nothing is sent, and a stop leaves the store of before the save or after
  -- it.
  pub record Stops (t : S) (kept : StoreMap) (a : Answer) (refused : Option NodeFault) (up : Option RunningNode) (outcome : Result (List Message) NodeFault) : Type 0 where
    pub sends : out_of outcome ≡ []
    pub down : up ≡ None
    pub leaves : (left : StoreMap) → (seen t).may_leave left → (left ≡ kept) ⊎ IsSaved kept a refused left

  -- of a node that was down nothing changes; of one that was up the event was done or refused, or
  -- it stopped the node
  abbrev pub ActsUp : (s t : S) → StoreMap → ℕ → ℕ → Option RunningNode → Option RunningNode → Event → Result (List Message) NodeFault → Type 0
  ActsUp s t kept n id None up event outcome = (t ≡ s) × (up ≡ None) × (out_of outcome ≡ [])
  ActsUp s t kept n id (Some node) up event outcome =
      Does t kept (on_event n id kept node event) (refusal kept (Some node) event) up outcome
      ⊎ Refuses t kept node up outcome
      ⊎ Stops t kept (on_event n id kept node event) (refusal kept (Some node) event) up outcome

  -- as node and store were before it and after it
  abbrev pub ActsIn : (s t : S) → StoreMap → NodeState → NodeState → Event → Result (List Message) NodeFault → Type 0
  ActsIn s t kept old new event outcome = ActsUp s t kept old.members old.id (running_in old) (running_in new) event outcome

-- The first moves of a member, over a store in memory (own).
use Rattle.std.specs.Prelude.{ℕ, ◌-◌, List, [], ◌∷◌, Result}
use Rattle.press_wire.specs.declared.message.Message.{Message}
use Rattle.press_acceptor.specs.StoreMap.{StoreMap, new_store}
use Rattle.press_node.specs.States.{NodeState, started_at}
use Rattle.press_node.specs.declared.event.Event.{Event}
use Rattle.press_node.specs.declared.fault.NodeFault.{NodeFault}
use Rattle.press_member.specs.Members.{Move}
use Rattle.press_member.specs.Members.Move.{Acts, Starts}

-- member id of n starts over a new store, and plays the event, with this outcome, store and state
abbrev pub first_moves : ℕ → ℕ → Event → Result (List Message) NodeFault → StoreMap → NodeState → List (Move StoreMap)
first_moves n id event outcome store state =
    Starts (id - 1) new_store (started_at id n 0) ∷ Acts (id - 1) event outcome store state ∷ []

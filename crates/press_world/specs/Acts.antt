-- What an event does to a place, which a stop may cut.
use Rattle.std.specs.Prelude.{ℕ, ◌≡◌, ◌⊎◌, Bool, true, false, Option, None, Some, List}
use Rattle.press_wire.specs.declared.message.Message.{Message}
use Rattle.press_acceptor.specs.StoreMap.{StoreMap, with_any_save}
use Rattle.press_node.specs.declared.event.Event.{Event}
use Rattle.press_node.specs.declared.fault.NodeFault.{NodeFault}
use Rattle.press_node.specs.declared.fault.NodeFault.TheVariants.{Down, NoMemory}
use Rattle.press_node.specs.Faults.{stops}
use Rattle.press_node.specs.NodeEvent.{RunningNode, Answer, on_event}
use Rattle.press_node.specs.Refusals.{refusal}
use Rattle.press_world.specs.Worlds.{Place, saves, sends, left_up, store_after, refusal_before}
use Rattle.press_world.specs.declared.step.Cut.{Cut}
use Rattle.press_world.specs.declared.step.Cut.TheVariants.{BeforeSave, AfterSave, AfterMessages}

-- these messages, and the place after them
pub record Gives (a : Answer) (refused : Option NodeFault) (cut : Option Cut) (out : List Message) (old : StoreMap) (new : Place) : Type 0 where
  pub passes : refused ≡ None
  pub messages : out ≡ sends cut a.out
  pub store : new.store ≡ store_after old (saves cut) a.save
  pub up : new.up ≡ left_up cut a.after

abbrev pub DoesAt : ℕ → ℕ → StoreMap → Option RunningNode → Event → Option Cut → List Message → Place → Type 0
DoesAt n id store None event cut out new = ⊥
DoesAt n id store (Some node) event cut out new = Gives (on_event n id store node event) (refusal_before cut (refusal store (Some node) event)) cut out store new

-- out of memory leaves the node down, with the store before its save or after it, and a store in
-- memory has no other fault that stops; another refuses the event and changes nothing
abbrev pub Fails : Answer → Option NodeFault → NodeFault → Bool → Place → Place → Type 0
Fails a refused fault true old new =
    (fault ≡ NoMemory) × (refused ≡ None) × (new.up ≡ None) × ((new.store ≡ old.store) ⊎ (new.store ≡ with_any_save old.store a.save))
Fails a refused fault false old new = (refused ≡ Some fault) × (new ≡ old)

-- where the stop comes first there is nothing else to fail
abbrev pub UnlessBefore : Cut → Type 0 → Type 0
UnlessBefore BeforeSave P = ⊥
UnlessBefore AfterSave P = P
UnlessBefore (AfterMessages count) P = P

abbrev pub UnlessFirst : Option Cut → Type 0 → Type 0
UnlessFirst None P = P
UnlessFirst (Some cut) P = UnlessBefore cut P

abbrev pub FailsAt : ℕ → ℕ → StoreMap → Option RunningNode → Event → Option Cut → NodeFault → Place → Type 0
FailsAt n id store None event cut fault new = (fault ≡ Down) × (new ≡ record { store = store; up = None })
FailsAt n id store (Some node) event cut fault new =
    UnlessFirst cut (Fails (on_event n id store node event) (refusal store (Some node) event) fault (stops fault) (record { store = store; up = Some node }) new)

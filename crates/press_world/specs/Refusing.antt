-- Which fault refuses a step of a schedule (own): a node or a message that doesn't exist, a node
-- that is down, or what a running node refuses. A step that is refused changes nothing and plays no
-- cut.
use Rattle.std.specs.Prelude.{ℕ, ◌-◌, ◌≡◌, Option, None, Some, option_and_then, option_map, length, slice_get}
use Rattle.press_acceptor.specs.StoreMap.{StoreMap}
use Rattle.press_wire.specs.declared.message.Message.{Message}
use Rattle.press_node.specs.declared.event.Event.{Event}
use Rattle.press_node.specs.declared.event.Event.TheVariants as event
use Rattle.press_node.specs.declared.fault.NodeFault.{NodeFault}
use Rattle.press_node.specs.declared.fault.NodeFault.TheVariants.{Down}
use Rattle.press_node.specs.NodeEvent.{RunningNode}
use Rattle.press_node.specs.Refusals.{refusal}
use Rattle.press_world.specs.Stored.{StoredWorld}
use Rattle.press_world.specs.Worlds.{Place, index_of, refusal_before}
use Rattle.press_world.specs.declared.fault.WorldFault.{WorldFault}
use Rattle.press_world.specs.declared.fault.WorldFault.TheVariants.{NoSuchMessage, NoSuchNode, Node}
use Rattle.press_world.specs.declared.step.Cut.{Cut}
use Rattle.press_world.specs.declared.step.Step.{Step}
use Rattle.press_world.specs.declared.step.Step.TheVariants.{Submit, Wake, Deliver, Restart, Get}

-- ---- what is named by a number, from 1 on

abbrev pub place_numbered : StoredWorld → ℕ → Option Place
place_numbered s number = option_and_then (slice_get s.places) (index_of (length s.places) number)

abbrev pub message_numbered : StoredWorld → ℕ → Option Message
message_numbered s number = option_and_then (slice_get s.sent) (index_of (length s.sent) number)

-- the node that it is to
abbrev pub receiver : StoredWorld → Message → Option Place
receiver s message = slice_get s.places (message.to - 1)

-- ---- refusals

abbrev pub refusal_where : StoreMap → Option RunningNode → Event → Option Cut → Option NodeFault
refusal_where store None event cut = Some Down
refusal_where store (Some node) event cut = refusal_before cut (refusal store (Some node) event)

-- of an event that comes to a node
abbrev pub event_refusal : Option Place → Event → Option Cut → Option WorldFault
event_refusal None event cut = Some NoSuchNode
event_refusal (Some place) event cut = option_map Node (refusal_where place.store place.up event cut)

abbrev pub delivery_refusal : StoredWorld → Option Message → Option Cut → Option WorldFault
delivery_refusal s None cut = Some NoSuchMessage
delivery_refusal s (Some message) cut = event_refusal (receiver s message) (event.Deliver message) cut

abbrev pub missing_fault : Option Place → Option WorldFault
missing_fault None = Some NoSuchNode
missing_fault (Some place) = None

abbrev pub unless_up : Option RunningNode → Option NodeFault
unless_up None = Some Down
unless_up (Some node) = None

-- of a request for a page
abbrev pub get_refusal : Option Place → Option WorldFault
get_refusal None = Some NoSuchNode
get_refusal (Some place) = option_map Node (unless_up place.up)

abbrev pub step_refusal : StoredWorld → Step → Option WorldFault
step_refusal s (Submit number command cut) = event_refusal (place_numbered s number) (event.Submit command) cut
step_refusal s (Wake number cut) = event_refusal (place_numbered s number) event.Wake cut
step_refusal s (Deliver number cut) = delivery_refusal s (message_numbered s number) cut
step_refusal s (Restart number) = missing_fault (place_numbered s number)
step_refusal s (Get number target) = get_refusal (place_numbered s number)

-- ---- out of memory

-- it may come only where the step isn't refused, and never at a restart
abbrev pub TakesMemory : StoredWorld → Step → Type 0
TakesMemory s (Submit number command cut) = step_refusal s (Submit number command cut) ≡ None
TakesMemory s (Wake number cut) = step_refusal s (Wake number cut) ≡ None
TakesMemory s (Deliver number cut) = step_refusal s (Deliver number cut) ≡ None
TakesMemory s (Restart number) = ⊥
TakesMemory s (Get number target) = step_refusal s (Get number target) ≡ None

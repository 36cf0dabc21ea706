-- A node by its parts: its kit, its store, and the rest; and the reply that it gives.
use Rattle.std.specs.Prelude.{◌≡◌, Option, None, Some, List, Result, length}
use Rattle.press_apply.specs.Apply.{site_after}
use Rattle.press_callbacks.specs.Kits.{KitView, kit_view}
use Rattle.press_page.specs.Desk.{desk_of}
use Rattle.press_page.specs.Page.{page_of}
use Rattle.press_page.specs.declared.desk.Desk.{Desk}
use Rattle.press_page.specs.declared.reply.Reply.{Reply}
use Rattle.press_page.specs.declared.reply.Target.{Target}
use Rattle.press_acceptor.specs.Seen.{Seen}
use Rattle.press_wire.specs.declared.message.Message.{Message}
use Rattle.press_node.specs.declared.event.Event.{Event}
use Rattle.press_node.specs.declared.fault.NodeFault.{NodeFault}
use Rattle.press_acceptor.specs.Turned.{store_move}
use Rattle.press_node.specs.Plays.{Plays, StatePlays, state_move}
use Rattle.press_node.specs.States.{IsMemberOf, IsWhole, NodeState, Up}
use Rattle.press_node.specs.declared.node.Node.{Node}

-- the page of what the applied values make; none where the node is down
abbrev pub IsPageAt : KitView → Option Up → Target → Reply → Type 0
IsPageAt kit None target reply = ⊥
IsPageAt kit (Some up) target reply = reply ≡ page_of kit (site_after kit up.running.values) target

-- what editors see of what the applied values make; nothing where the node is down
abbrev pub IsDeskAt : KitView → Option Up → Desk → Reply → Type 0
IsDeskAt kit None asked reply = ⊥
IsDeskAt kit (Some up) asked reply = reply ≡ desk_of kit (site_after kit up.running.values) (length up.running.values) asked

-- ---- its parts

abbrev pub state_of : {S : _} {t : _} {F : _} {g : _} → Node S t F g → NodeState
state_of node = node.state

abbrev pub kit_of : {S : _} {t : _} {F : _} {g : _} → Node S t F g → KitView
kit_of node = kit_view node.kit

abbrev pub store_of : {S : _} {t : _} {F : _} {g : _} → Node S t F g → S
store_of node = node.store

-- ---- what was done to it

abbrev pub NodePlays : {S T : Type 0} {t : _} {F : _} {g : _} → (S → Seen) → Node S t F g → Node S t F g → Event → (T → List Message) → Result T NodeFault → Type 0
NodePlays seen old new event messages result =
    StatePlays seen (store_of old) (store_of new) (state_of old) (state_of new) event messages result

-- An event, as a connection plays it: the node is the same member and whole, and the event did what
-- it does.
pub record IsPlayed (state state_after : NodeState) (Does : Type 0) : Type 0 where
  pub member : IsMemberOf state state_after
  pub whole : IsWhole state_after
  pub plays : Does

-- A node before and after a connection.
pub record NodeMove : Type 1 where
  pub kit : KitView
  -- what it had in memory, where it was up
  pub up : Option Up
  -- it is the very same
  pub same : Type 0
  -- this event was played, with this outcome
  pub plays : Event → Result (List Message) NodeFault → Type 0

abbrev pub node_move : {S : Type 0} {t : _} {F : _} {g : _} → (S → Seen) → Node S t F g → Node S t F g → NodeMove
node_move seen old new = record {
  kit = kit_of old;
  up = (state_of old).up;
  same = new ≡ old;
  plays = λ event outcome. IsPlayed (state_of old) (state_of new) (Plays (store_move seen (store_of old) (store_of new)) (state_move (state_of old) (state_of new)) event outcome);
}

-- A turn of a member: a list of deeds, each an event of its node or a question, with what there was
-- memory for of what it sent (own).
use Rattle.std.specs.Prelude.{ℕ, ◌≡◌, ◌==◌, not, List, [], ◌∷◌, ◌++◌, filter, drop, slice_get, Option, None, Some, Result, Ok, Err}
use Rattle.press_wire.specs.declared.message.Message.{Message}
use Rattle.press_acceptor.specs.Trace.{IsMember}
use Rattle.press_acceptor.specs.declared.fault.StoreFault.{StoreFault}
use Rattle.press_node.specs.Faults.{stop_of}
use Rattle.press_node.specs.Nodes.{NodeMove}
use Rattle.press_node.specs.declared.event.Event.{Event}
use Rattle.press_node.specs.declared.event.Event.TheVariants as event
use Rattle.press_node.specs.declared.fault.NodeFault.{NodeFault}
use Rattle.press_member.specs.Members.{out_of, question}

-- of what the member with this number sends, what goes to itself, and what to others, in the order
-- in which it was sent
abbrev pub for_self : ℕ → List Message → List Message
for_self id = filter (λ m. m.to == id)

abbrev pub for_others : ℕ → List Message → List Message
for_others id = filter (λ m. not (m.to == id))

-- why an event is played
pub data Cause : Type 0 where
  -- the input brings it
  Brought : Cause
  -- it is the first message of those that the member has sent to itself and not heard yet
  Heard : Cause
  -- a wake is due
  Due : Cause

-- the later stop
abbrev pub later_stop : Option StoreFault → Option StoreFault → Option StoreFault
later_stop stop None = stop
later_stop stop (Some by) = Some by

-- what stopped the node last, behind an event with this outcome
abbrev pub stop_behind : Option StoreFault → Result (List Message) NodeFault → Option StoreFault
stop_behind stop (Ok out) = stop
stop_behind stop (Err fault) = later_stop stop (stop_of fault)

pub data Deed (N : Type 0) : Type 0 where
  -- the node plays an event, with this outcome, and is this node then; these of its messages are
  -- kept
  Plays : (cause : Cause) (event : Event) (outcome : Result (List Message) NodeFault) (kept : List Message) (after : N) → Deed N
  -- a member is asked about a slot
  Asks : (to slot : ℕ) (kept : List Message) → Deed N

-- why it is done; none of a question
abbrev pub cause_of : {N : Type 0} → Deed N → Option Cause
cause_of (Plays cause event outcome kept after) = Some cause
cause_of (Asks to slot kept) = None

-- and what stopped the node last, behind deeds
abbrev pub stop_after : {N : Type 0} → Option StoreFault → Deed N → Option StoreFault
stop_after stop (Plays cause event outcome kept after) = stop_behind stop outcome
stop_after stop (Asks to slot kept) = stop

abbrev pub stop_after_all : {N : Type 0} → Option StoreFault → List (Deed N) → Option StoreFault
stop_after_all stop [] = stop
stop_after_all stop (d ∷ deeds) = stop_after_all (stop_after stop d) deeds

-- the messages of a deed for which there was memory
abbrev pub kept_by : {N : Type 0} → Deed N → List Message
kept_by (Plays cause event outcome kept after) = kept
kept_by (Asks to slot kept) = kept

abbrev pub kept_by_all : {N : Type 0} → List (Deed N) → List Message
kept_by_all [] = []
kept_by_all (d ∷ deeds) = kept_by d ++ kept_by_all deeds

-- the messages of a deed
abbrev pub sent_by : {N : Type 0} → ℕ → Deed N → List Message
sent_by id (Plays cause event outcome kept after) = out_of outcome
sent_by id (Asks to slot kept) = question id to slot ∷ []

-- there was memory for each message
abbrev pub KeepsAll : {N : Type 0} → ℕ → List (Deed N) → Type 0
KeepsAll id [] = Unit {0}
KeepsAll id (d ∷ deeds) = (kept_by d ≡ sent_by id d) × KeepsAll id deeds

-- these are the first of those
abbrev pub IsFront : List Message → List Message → Type 0
IsFront front all = (rest : List Message) × (front ++ rest ≡ all)

-- what waits for the member itself behind a deed: what is heard leaves it, and what it sends to
-- itself comes in at its end
abbrev pub own_after : {N : Type 0} → ℕ → List Message → Deed N → List Message
own_after id own (Plays Heard event outcome kept after) = drop 1 own ++ for_self id kept
own_after id own (Plays Brought event outcome kept after) = own ++ for_self id kept
own_after id own (Plays Due event outcome kept after) = own ++ for_self id kept
own_after id own (Asks to slot kept) = own ++ for_self id kept

abbrev pub own_after_all : {N : Type 0} → ℕ → List Message → List (Deed N) → List Message
own_after_all id own [] = own
own_after_all id own (d ∷ deeds) = own_after_all id (own_after id own d) deeds

-- it is played for this cause
abbrev pub IsCause : List Message → Cause → Event → Type 0
IsCause own Brought e = Unit {0}
IsCause own Heard e = (m : Message) × (slice_get own 0 ≡ Some m) × (e ≡ event.Deliver m)
IsCause own Due e = e ≡ event.Wake

module _ {N : Type 0} (moved : N → N → NodeMove) (n id : ℕ) where
  -- of a member that has these messages to hear: the deeds lead from a node to another, who is
  -- asked is one of n members
  abbrev pub Does : List Message → N → List (Deed N) → N → Type 0
  Does own node [] after = after ≡ node
  Does own node (Plays cause e outcome kept next ∷ deeds) after =
      IsCause own cause e × (moved node next).plays e outcome × IsFront kept (out_of outcome)
      × Does (own_after id own (Plays cause e outcome kept next)) next deeds after
  Does own node (Asks to slot kept ∷ deeds) after =
      IsMember n to × IsFront kept (question id to slot ∷ []) × Does (own_after {N = N} id own (Asks to slot kept)) node deeds after

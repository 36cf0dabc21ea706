-- What a member's parts say of a turn (own).
use Rattle.std.specs.Prelude.{◌≡◌, ◌⊎◌, Option, List, length, Result, IfOk, IsTrue, is_ok}
use Rattle.std.specs.declared.alloc.AllocError.{AllocError}
use Rattle.press_wire.specs.declared.message.Message.{Message}
use Rattle.press_node.specs.Nodes.{NodeMove}
use Rattle.press_node.specs.declared.event.Event.{Event}
use Rattle.press_node.specs.declared.fault.NodeFault.{NodeFault}
use Rattle.press_member.specs.Acts.{View, moment, taken_answer}
use Rattle.press_member.specs.Deeds.{Deed}
use Rattle.press_member.specs.Turns.{AreQuestions, Brings, MayWake, Turned}
use Rattle.press_member.specs.declared.output.Answer.{Answer}
use Rattle.press_member.specs.declared.peers.Peers.{Peers}

-- they are as many, and run the same
pub record AreSame (old new : Peers) : Type 0 where
  pub own : new.own ≡ old.own
  pub count : length new.all.items ≡ length old.all.items
  pub digests : new.digests ≡ old.digests
  pub differing : new.differing.items ≡ old.differing.items

-- a wake, or questions
abbrev pub IsDue : {N : Type 0} → List (Deed N) → Type 0
IsDue deeds = MayWake deeds ⊎ AreQuestions deeds

module _ {N : Type 0} (moved : N → N → NodeMove) (old new : View N) where
  -- it is the same member
  pub record IsSame : Type 0 where
    pub id : new.id ≡ old.id
    pub members : new.members ≡ old.members
    pub digests : new.digests ≡ old.digests
    pub chain : new.chain ≡ old.chain
    pub differing : new.differing ≡ old.differing
    pub kit : (moved new.node new.node).kit ≡ (moved old.node old.node).kit

  -- it does deeds of this kind
  abbrev pub Turns : (List (Deed N) → Type 0) → List Message → List Message → Type 0 → Type 0
  Turns Kind out out' Whole = Turned moved old.members old.id Kind Whole (moment old) (moment new) out out'

  -- the event is played first, and its answer tells what became of it
  abbrev pub BringsEvent : Event → List Message → List Message → Result Answer AllocError → Type 0
  BringsEvent event out out' result =
      (refused : Option NodeFault)
      × Turns (Brings event refused) out out' (IsTrue (is_ok result))
      × IfOk result (λ given. given ≡ taken_answer refused)

-- A turn of a member: deeds of one kind, and what is sent (own).
use Rattle.std.specs.Prelude.{ℕ, ◌≡◌, ◌≤◌, ◌⊎◌, Option, None, Some, List, [], ◌∷◌, ◌++◌, length, Result, Ok, Err}
use Rattle.std.specs.List.{AllByRecursion}
use Rattle.press_apply.specs.declared.command.Stamped.{Stamped}
use Rattle.press_apply.specs.declared.value.Value.{Value}
use Rattle.press_apply.specs.declared.value.Value.TheVariants.{Noop, Cmd}
use Rattle.press_wire.specs.declared.message.Body.{Body}
use Rattle.press_wire.specs.declared.message.Body.TheVariants.{Prepare, Promise, Nack, Accept, Accepted, Query}
use Rattle.press_wire.specs.declared.message.Message.{Message}
use Rattle.press_acceptor.specs.declared.fault.StoreFault.{StoreFault}
use Rattle.press_node.specs.Nodes.{NodeMove}
use Rattle.press_node.specs.declared.event.Event.{Event}
use Rattle.press_node.specs.declared.event.Event.TheVariants.{Deliver, Submit}
use Rattle.press_node.specs.declared.fault.NodeFault.{NodeFault}
use Rattle.press_member.specs.Deeds.{Cause, Deed, Does, IsFront, KeepsAll, cause_of, for_others, for_self, kept_by_all, own_after_all, stop_after_all, stop_behind}
use Rattle.press_member.specs.Members.{out_of}
use Rattle.press_member.specs.Deeds.Cause.{Brought, Heard, Due}
use Rattle.press_member.specs.Deeds.Deed.{Plays, Asks}

-- each is done for this cause
abbrev pub AreFor : {N : Type 0} → Option Cause → List (Deed N) → Type 0
AreFor cause = AllByRecursion (λ d. cause_of d ≡ cause)

-- questions, and nothing else
abbrev pub AreQuestions : {N : Type 0} → List (Deed N) → Type 0
AreQuestions = AreFor None

-- at most one wake, and nothing else
pub record MayWake {N : Type 0} (deeds : List (Deed N)) : Type 0 where
  pub are : AreFor (Some Due) deeds
  pub few : length deeds ≤ 1

-- the most that a member hears of itself in one turn
unfoldable pub most_own : ℕ
most_own = 1000

-- What the member with this number has sent to itself is heard, until nothing waits or it has heard
-- the most.
pub record HearsAll {N : Type 0} (id : ℕ) (Whole : Type 0) (own : List Message) (deeds : List (Deed N)) : Type 0 where
  pub are : AreFor (Some Heard) deeds
  pub few : length deeds ≤ most_own
  pub all : Whole → (own_after_all id own deeds ≡ []) ⊎ (length deeds ≡ most_own)

-- and then a wake may be due
pub record HearsFirst {N : Type 0} (id : ℕ) (Whole : Type 0) (own : List Message) (deeds : List (Deed N)) : Type 0 where
  pub heard : List (Deed N)
  pub more : List (Deed N)
  pub are : deeds ≡ heard ++ more
  pub hears : HearsAll id Whole own heard
  pub wakes : MayWake more

-- why an event was refused
abbrev pub refusal_by : Result (List Message) NodeFault → Option NodeFault
refusal_by (Ok out) = None
refusal_by (Err fault) = Some fault

-- the event is played first, and refused so; then a wake may be due
abbrev pub Brings : {N : Type 0} → Event → Option NodeFault → List (Deed N) → Type 0
Brings event refused [] = ⊥
Brings event refused (Plays Brought e outcome kept after ∷ deeds) = (e ≡ event) × (refusal_by outcome ≡ refused) × MayWake deeds
Brings event refused (Plays Heard e outcome kept after ∷ deeds) = ⊥
Brings event refused (Plays Due e outcome kept after ∷ deeds) = ⊥
Brings event refused (Asks to slot kept ∷ deeds) = ⊥

-- the command of a value
abbrev pub command_of : Value → Option Stamped
command_of (Noop at) = None
command_of (Cmd command) = Some command

-- the command of the vote that a message tells of
abbrev pub command_of_vote : Body → Option Stamped
command_of_vote (Accepted vote) = command_of vote.value
command_of_vote (Prepare round) = None
command_of_vote (Promise ballot votes) = None
command_of_vote (Nack refused promised) = None
command_of_vote (Accept round value) = None
command_of_vote Query = None

-- The message tells this member of a vote for this command, in its next slot.
pub record IsVotedNext (id next : ℕ) (message : Message) (command : Stamped) : Type 0 where
  pub for_it : message.to ≡ id
  pub slot_is : message.slot ≡ next
  pub voted : command_of_vote message.body ≡ Some command

-- one of these commands may be submitted; then a wake may be due
abbrev pub MaySubmit : {N : Type 0} → (Stamped → Type 0) → List (Deed N) → Type 0
MaySubmit Which deeds = (deeds ≡ []) ⊎ ((command : Stamped) × Which command × ((refused : Option NodeFault) × Brings (Submit command) refused deeds))

-- A message is delivered first, and refused so; then the command of a vote for the next slot, of
-- which it tells this member, may be submitted.
pub record Delivers {N : Type 0} (id next : ℕ) (message : Message) (refused : Option NodeFault) (deeds : List (Deed N)) : Type 0 where
  pub first : List (Deed N)
  pub more : List (Deed N)
  pub are : deeds ≡ first ++ more
  pub brings : Brings (Deliver message) refused first
  pub submits : MaySubmit (IsVotedNext id next message) more

-- What a turn changes of a member: its node, what it has sent to itself and not heard yet, and what
-- stopped the node last.
pub record Moment (N : Type 0) : Type 0 where
  pub node : N
  pub own : List Message
  pub stop : Option StoreFault

module _ {N : Type 0} (moved : N → N → NodeMove) (n id : ℕ) where
  -- A turn, from one moment to another: deeds of this kind, and what they send to others goes out
  -- in their order. Where there was memory nothing is lost.
  pub record Turned (Kind : List (Deed N) → Type 0) (Whole : Type 0) (old new : Moment N) (out out' : List Message) : Type 0 where
    pub deeds : List (Deed N)
    pub does : Does moved n id old.own old.node deeds new.node
    pub own_is : new.own ≡ own_after_all id old.own deeds
    pub stop_is : new.stop ≡ stop_after_all old.stop deeds
    pub out_is : out' ≡ out ++ for_others id (kept_by_all deeds)
    pub kind : Kind deeds
    pub whole : Whole → KeepsAll id deeds

-- what was sent, as far as there was memory for it, is where it goes
pub record IsSorted (id : ℕ) (sent : List Message) (Whole : Type 0) (own own' out out' : List Message) : Type 0 where
  pub kept : List Message
  pub front : IsFront kept sent
  pub own_is : own' ≡ own ++ for_self id kept
  pub out_is : out' ≡ out ++ for_others id kept
  pub whole : Whole → kept ≡ sent

-- one event was played
pub record IsDeed {N : Type 0} (moved : N → N → NodeMove) (id : ℕ) (event : Event) (refused : Option NodeFault → Type 0) (Whole : Type 0) (old new : Moment N) (out out' : List Message) : Type 0 where
  pub outcome : Result (List Message) NodeFault
  pub plays : (moved old.node new.node).plays event outcome
  pub sorted : IsSorted id (out_of outcome) Whole old.own new.own out out'
  pub stop_is : new.stop ≡ stop_behind old.stop outcome
  pub refused_so : refused (refusal_by outcome)

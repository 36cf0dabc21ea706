-- *Acts*: what an input does to a member, and what it brings (own).
use Rattle.std.specs.Prelude.{ℕ, ◌+◌, ◌-◌, ◌≡◌, ◌≢◌, ◌⊎◌, ◌&&◌, Bool, true, false, nat_lt, Option, None, Some, List, [], length, replicate, Result, IfOk, IfErr, IsTrue, is_ok, is_some}
use Rattle.std.specs.declared.alloc.AllocError.{AllocError}
use Rattle.press_callbacks.specs.Kits.{KitView}
use Rattle.press_page.specs.declared.reply.Reply.{Reply}
use Rattle.press_page.specs.declared.reply.Target.{Target}
use Rattle.press_wire.specs.declared.message.Message.{Message}
use Rattle.press_acceptor.specs.declared.fault.StoreFault.{StoreFault}
use Rattle.press_node.specs.Nodes.{IsPageAt, NodeMove}
use Rattle.press_node.specs.declared.node.Node.{Node}
use Rattle.press_node.specs.States.{NodeState, Up, count_where, is_down, is_down_where, values_where}
use Rattle.press_node.specs.declared.event.Event.{Event}
use Rattle.press_node.specs.declared.event.Event.TheVariants as event
use Rattle.press_node.specs.declared.fault.NodeFault.{NodeFault}
use Rattle.press_node.specs.declared.fault.NodeFault.TheVariants.{Down, NoMemory}
use Rattle.press_member.specs.Deeds.{Deed}
use Rattle.press_member.specs.Turns.{AreQuestions, Brings, Delivers, HearsFirst, MayWake, Moment, Turned}
use Rattle.press_batch.specs.declared.report.Digests.{Digests}
use Rattle.press_chain.specs.Chains.{IsChainOf}
use Rattle.press_chain.specs.declared.chain.Chain.{Chain}
use Rattle.press_member.specs.Differing.{Notes}
use Rattle.press_member.specs.Ready.{is_agreed}
use Rattle.press_member.specs.declared.input.Input.{Input}
use Rattle.press_member.specs.declared.input.Input.TheVariants.{Command, Page, Message as Letter, Report, Ended, HearOwn, Time}
use Rattle.press_member.specs.declared.output.Answer.{Answer}
use Rattle.press_member.specs.declared.output.Answer.TheVariants as answer
use Rattle.press_member.specs.declared.output.Outputs.{Outputs}
use Rattle.press_member.specs.declared.beginning.Beginning.{Beginning}
use Rattle.press_member.specs.declared.member.Member.{Member}

-- A member: its node, what it has sent to itself and not heard yet, and what it knows of the
-- cluster.
pub record View (N : Type 0) : Type 0 where
  pub id : ℕ
  pub members : ℕ
  pub digests : Digests
  pub node : N
  pub own : List Message
  -- what stopped its node last
  pub stop : Option StoreFault
  -- it shows pages
  pub is_open : Bool
  -- the digests of what it has applied
  pub chain : Chain
  -- for each member, from the first, whether it has applied other values
  pub differing : List Bool

-- what a turn may change of it
abbrev pub moment : {N : Type 0} → View N → Moment N
moment view = record { node = view.node; own = view.own; stop = view.stop }

-- it takes commands: it is open, and those that have applied the same are a majority, as far as it
-- knows
abbrev pub takes_commands : {N : Type 0} → View N → Bool
takes_commands view = view.is_open && is_agreed view.members (view.id - 1) view.differing

-- a form has its command submitted where the member takes commands, and nothing done else
abbrev pub Submits : {N : Type 0} → Bool → Event → Option NodeFault → List (Deed N) → Type 0
Submits true event refused deeds = Brings event refused deeds
Submits false event refused deeds = deeds ≡ []

-- which deeds an input has a member do, where an event that it brings is refused so
abbrev pub Has : {N : Type 0} → View N → Option Up → Type 0 → Input → Option NodeFault → List (Deed N) → Type 0
Has old up Whole (Command command) refused deeds = Submits (takes_commands old) (event.Submit command) refused deeds
Has old up Whole (Letter message) refused deeds = Delivers old.id (count_where up + 1) message refused deeds
Has old up Whole HearOwn refused deeds = HearsFirst old.id Whole old.own deeds
Has old up Whole (Time now) refused deeds = MayWake deeds ⊎ AreQuestions deeds
Has old up Whole (Page target) refused deeds = deeds ≡ []
Has old up Whole (Report from report) refused deeds = deeds ≡ []
Has old up Whole (Ended to asked is_taken) refused deeds = deeds ≡ []

-- an input for which memory may be wanting
abbrev pub TakesMemory : {N : Type 0} → View N → Input → Type 0
TakesMemory old (Command command) = IsTrue (takes_commands old)
TakesMemory old (Letter message) = Unit {0}
TakesMemory old HearOwn = Unit {0}
TakesMemory old (Time now) = Unit {0}
TakesMemory old (Page target) = ⊥
TakesMemory old (Report from report) = ⊥
TakesMemory old (Ended to asked is_taken) = ⊥

abbrev pub taken_answer : Option NodeFault → Answer
taken_answer None = answer.Taken
taken_answer (Some fault) = answer.Refused fault

abbrev pub answer_if_taking : Bool → Option NodeFault → Answer
answer_if_taking true refused = taken_answer refused
answer_if_taking false refused = answer.NotYet

-- the page, or why there is none
abbrev pub Shows : Bool → KitView → Option Up → Target → Answer → Type 0
Shows true kit up target given =
    ((reply : Reply) × (given ≡ answer.Page reply) × IsPageAt kit up target reply)
    ⊎ ((given ≡ answer.Refused Down) × (is_down_where up ≡ true)) ⊎ (given ≡ answer.Refused NoMemory)
Shows false kit up target given = given ≡ answer.NotYet

-- a report is taken from who counts the same members and runs the same kit
abbrev pub Hears : Digests → Digests → Answer → Type 0
Hears own theirs given = ((given ≡ answer.Taken) × (theirs ≡ own)) ⊎ ((given ≡ answer.Foreign) × (theirs ≢ own))

-- what is answered to an input
abbrev pub Answers : {N : Type 0} → View N → KitView → Option Up → Input → Option NodeFault → Answer → Type 0
Answers old kit up (Command command) refused given = given ≡ answer_if_taking (takes_commands old) refused
Answers old kit up (Letter message) refused given = given ≡ taken_answer refused
Answers old kit up (Page target) refused given = Shows old.is_open kit up target given
Answers old kit up (Report from report) refused given = Hears old.digests report.digests given
Answers old kit up (Ended to asked is_taken) refused given = given ≡ answer.Nothing
Answers old kit up HearOwn refused given = given ≡ answer.Nothing
Answers old kit up (Time now) refused given = given ≡ answer.Nothing

-- A member before and after an input: its node moved by the deeds that the input has it do, each by
-- *Plays*; it heard nothing but what the input brought and, in their order and each once, the
-- messages that it had sent to itself; what stopped its node is told; and what it sent to others
-- goes out, in its order. Where there is memory nothing of that is lost. Digests that are right of
-- what it has applied by then stay so, and of the others a report alone is noted.
pub record Acts {N : Type 0} (moved : N → N → NodeMove) (input : Input) (old new : View N) (result : Result Outputs AllocError) : Type 0 where
  pub id : new.id ≡ old.id
  pub members : new.members ≡ old.members
  pub digests : new.digests ≡ old.digests
  pub kit : (moved new.node new.node).kit ≡ (moved old.node old.node).kit
  pub refused : Option NodeFault
  pub out : List Message
  pub turned : Turned moved old.members old.id (Has old (moved old.node old.node).up (IsTrue (is_ok result)) input refused) (IsTrue (is_ok result)) (moment old) (moment new) [] out
  pub sent : IfOk result (λ outputs. outputs.messages.items ≡ out)
  pub answered : IfOk result (λ outputs. Answers old (moved old.node old.node).kit (moved old.node old.node).up input refused outputs.answer)
  pub memory : IfErr result (λ fault. TakesMemory old input)
  pub chain : IsChainOf (values_where (moved new.node new.node).up) old.chain → IsChainOf (values_where (moved new.node new.node).up) new.chain
  pub notes : Notes old.digests old.chain old.differing input new.differing

abbrev pub view_of : {S : _} {t : _} {F : _} {g : _} → Member S t F g → View (Node S t F g)
view_of member = record {
  id = member.player.id;
  members = length member.peers.all.items;
  digests = member.peers.digests;
  node = member.player.node;
  own = member.player.own.items;
  stop = member.player.stopped_by;
  is_open = member.player.pace.is_open;
  chain = member.chain;
  differing = member.peers.differing.items;
}

-- one that begins with this node, and with digests of nothing
abbrev pub first_view : {N : Type 0} → Beginning → N → Chain → View N
first_view beginning node chain = record {
  id = beginning.id;
  members = beginning.members;
  digests = beginning.digests;
  node = node;
  own = [];
  stop = None;
  is_open = false;
  chain = chain;
  differing = replicate beginning.members false;
}

abbrev pub is_open : {N : Type 0} → View N → Bool
is_open view = view.is_open

-- where its node was down just where something is told to have stopped it, that is so after it too,
-- while the store keeps its word
abbrev pub TellsStop : {N : Type 0} → (N → Type 0) → (N → NodeState) → View N → View N → Type 0
TellsStop trusted state old new = trusted new.node → is_down (state old.node) ≡ is_some old.stop → is_down (state new.node) ≡ is_some new.stop

abbrev pub chain_in : {N : Type 0} → View N → Chain
chain_in view = view.chain

abbrev pub differing_in : {N : Type 0} → View N → List Bool
differing_in view = view.differing

abbrev pub stop_in : {N : Type 0} → View N → Option StoreFault
stop_in view = view.stop

abbrev pub node_in : {N : Type 0} → View N → N
node_in view = view.node

-- it has messages of its own to hear
abbrev pub has_more : {N : Type 0} → View N → Bool
has_more view = nat_lt 0 (length view.own)

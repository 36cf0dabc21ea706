-- What becomes of a member that a server serves: a life, by its inputs (own).
use Rattle.std.specs.Prelude.{ℕ, ◌≡◌, ◌+◌, ◌==◌, Bool, IsTrue, List, [], ◌∷◌, ◌++◌, MatchOption, Option, Result, if◌then◌else◌, refl}
use Rattle.std.proofs.Common.{subst}
use Rattle.std.specs.declared.alloc.AllocError.{AllocError}
use Rattle.press_acceptor.specs.Seen.{Seen}
use Rattle.press_batch.specs.Carried.{BatchContent}
use Rattle.press_batch.specs.declared.head.Head.{Head}
use Rattle.press_net.specs.Answering.{Credit}
use Rattle.press_node.specs.Nodes.{NodeMove, node_move, state_of, store_of}
use Rattle.press_node.specs.States.{NodeState, Up}
use Rattle.press_node.specs.declared.fault.NodeFault.{NodeFault}
use Rattle.press_callbacks.specs.Kits.{KitView}
use Rattle.press_member.specs.Acts.{Acts, Answers, Hears, View, view_of}
use Rattle.press_member.specs.Coming.{AreItsMoves}
use Rattle.press_member.specs.Lives.{Lives, Step}
use Rattle.press_member.specs.declared.input.Input.{Input}
use Rattle.press_member.specs.declared.input.Input.TheVariants.{Command, Page, Message as Letter, Report, Ended, HearOwn, Time}
use Rattle.press_member.specs.declared.member.Member.{Member}
use Rattle.press_member.specs.declared.output.Answer.{Answer}
use Rattle.press_member.specs.declared.output.Outputs.{Outputs}
use Rattle.press_cluster.specs.Members.{IsSaid}
use Rattle.press_wire.specs.Ranges.{member_id_of}
use Rattle.press_wire.specs.declared.message.Message.{Message}

-- what becomes of a member, as a view: a life, by its inputs
pub record IsLife {S N : Type 0} (seen : S → Seen) (moved : N → N → NodeMove) (store : N → S) (state : N → NodeState) (old new : View N) : Type 0 where
  pub steps : List (Step N)
  pub lives : Lives seen moved store state steps old new

-- no input comes
pub none_comes : {S N : Type 0} {seen : S → Seen} {moved : N → N → NodeMove} {store : N → S} {state : N → NodeState} (only : View N) → IsLife seen moved store state only only
none_comes only = record { steps = []; lives = refl }

-- one comes
unfoldable pub one_comes : {S N : Type 0} {seen : S → Seen} {moved : N → N → NodeMove} {store : N → S} {state : N → NodeState} (old new : View N) (input : Input) (result : Result Outputs AllocError)
    → Acts moved input old new result → AreItsMoves seen store state input old new result → IsLife seen moved store state old new
one_comes old new input result acts moves = record {
  steps = record { input = input; result = result; next = new } ∷ [];
  lives = (acts, moves, refl);
}

pub lives_then : {S N : Type 0} (seen : S → Seen) (moved : N → N → NodeMove) (store : N → S) (state : N → NodeState) (first last : List (Step N)) (old next new : View N)
    → Lives seen moved store state first old next → Lives seen moved store state last next new → Lives seen moved store state (first ++ last) old new
lives_then seen moved store state [] last old next new early late = subst (λ v. Lives seen moved store state last v new) early late
lives_then seen moved store state (s ∷ first) last old next new early late = (early.0, early.1, lives_then seen moved store state first last s.next next new early.2 late)

-- some come, and then some
unfoldable pub more_come : {S N : Type 0} {seen : S → Seen} {moved : N → N → NodeMove} {store : N → S} {state : N → NodeState} (old next new : View N)
    → IsLife seen moved store state old next → IsLife seen moved store state next new → IsLife seen moved store state old new
more_come {seen = seen} {moved = moved} {store = store} {state = state} old next new early late = record {
  steps = early.steps ++ late.steps;
  lives = lives_then seen moved store state early.steps late.steps old next new early.lives late.lives;
}

abbrev pub MemberLives : {S : Type 0} {t : _} {F : _} {g : _} → (S → Seen) → Member S t F g → Member S t F g → Type 0
MemberLives seen old new = IsLife seen (λ a b. node_move seen a b) (λ node. store_of node) (λ node. state_of node) (view_of old) (view_of new)

-- a member takes that input, and no other
pub record TakesInput {S N : Type 0} (seen : S → Seen) (moved : N → N → NodeMove) (store : N → S) (state : N → NodeState) (input : Input) (old new : View N) : Type 0 where
  pub result : Result Outputs AllocError
  pub acts : Acts moved input old new result
  pub moves : AreItsMoves seen store state input old new result

abbrev pub MemberTakes : {S : Type 0} {t : _} {F : _} {g : _} → (S → Seen) → Input → Member S t F g → Member S t F g → Type 0
MemberTakes seen input old new = TakesInput seen (λ a b. node_move seen a b) (λ node. store_of node) (λ node. state_of node) input (view_of old) (view_of new)

-- it is that member's report, or a message in its name
abbrev pub IsOf : ℕ → Input → Type 0
IsOf from (Command command) = ⊥
IsOf from (Page target) = ⊥
IsOf from (Letter message) = message.from ≡ from
IsOf from (Report who report) = who ≡ from
IsOf from (Ended to asked is_taken) = ⊥
IsOf from HearOwn = ⊥
IsOf from (Time now) = ⊥

abbrev pub AreOf : {N : Type 0} → ℕ → List (Step N) → Type 0
AreOf from [] = Unit {0}
AreOf from (step ∷ steps) = IsOf from step.input × AreOf from steps

-- nothing comes but what is of that member
abbrev pub HearsOnly : {S : Type 0} {t : _} {F : _} {g : _} → (S → Seen) → ℕ → Member S t F g → Member S t F g → Type 0
HearsOnly seen from old new = (life : MemberLives seen old new) × AreOf from life.steps

-- a member takes these inputs, in their order, and no others
abbrev pub TakesAll : {S : Type 0} {t : _} {F : _} {g : _} → (S → Seen) → List Input → Member S t F g → Member S t F g → Type 0
TakesAll seen [] old new = new ≡ old
TakesAll {S = S} {t = t} {F = F} {g = g} seen (input ∷ inputs) old new = (next : Member S t F g) × MemberTakes seen input old next × TakesAll seen inputs next new

-- those of these messages that are in that member's name
abbrev pub letters : ℕ → List Message → List Input
letters from [] = []
letters from (message ∷ messages) = if message.from == from then Letter message ∷ letters from messages else letters from messages

-- what a batch brings: its report, and then its messages
abbrev pub inputs_of : Head → List Message → List Input
inputs_of head messages = Report head.from head.report ∷ letters head.from messages

abbrev pub inputs_in : BatchContent → List Input
inputs_in batch = inputs_of batch.head batch.messages

-- a reply is a batch of that member, which counts the same members and runs the same kit, and all of
-- it is heard
abbrev pub HearsReply : {S : Type 0} {t : _} {F : _} {g : _} → (S → Seen) → ℕ → List ℕ → Member S t F g → Member S t F g → Type 0
HearsReply seen from reply old new =
    (batch : BatchContent) × (batch.head.from ≡ from) × IsSaid reply batch × (batch.head.report.digests ≡ (view_of old).digests) × TakesAll seen (inputs_in batch) old new

-- a member is told last that a request to the member at that place has ended, with as many looks
-- and questions as were in it; as one that was taken only where its reply was heard
abbrev pub IsToldOfEnd : {S : Type 0} {t : _} {F : _} {g : _} → (S → Seen) → Credit → Member S t F g → Member S t F g → Type 0
IsToldOfEnd {S = S} {t = t} {F = F} {g = g} seen credit old new =
    MatchOption (member_id_of (credit.place + 1)) (new ≡ old)
    (λ to. (is_taken : Bool) × (between : Member S t F g) × (IsTrue is_taken → HearsReply seen to credit.reply old between) × MemberLives seen old between
    × MemberTakes seen (Ended to credit.errand.asked is_taken) between new)

-- what is answered to a report: whether it is of the same members and the same kit
abbrev pub Compares : {N : Type 0} → View N → Input → Answer → Type 0
Compares member (Report from report) given = Hears member.digests report.digests given
Compares member (Command command) given = Unit {0}
Compares member (Page target) given = Unit {0}
Compares member (Letter message) given = Unit {0}
Compares member (Ended to asked is_taken) given = Unit {0}
Compares member HearOwn given = Unit {0}
Compares member (Time now) given = Unit {0}

-- by what is answered to an input
pub compares_by_answers : {N : Type 0} (member : View N) (kit : KitView) (up : Option Up) (input : Input) (refused : Option NodeFault) (given : Answer) → Answers member kit up input refused given → Compares member input given
compares_by_answers member kit up (Report from report) refused given answers = answers
compares_by_answers member kit up (Command command) refused given answers = tt
compares_by_answers member kit up (Page target) refused given answers = tt
compares_by_answers member kit up (Letter message) refused given answers = tt
compares_by_answers member kit up (Ended to asked is_taken) refused given answers = tt
compares_by_answers member kit up HearOwn refused given answers = tt
compares_by_answers member kit up (Time now) refused given answers = tt

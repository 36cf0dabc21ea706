-- What a node sends is in form: what is about a block has its first slot, and reports votes for its
-- slots alone, which rise.
use Rattle.std.proofs.Common.{ℕ, ◌+◌, ◌≡◌, Bool, true, List, [], ◌∷◌, ◌++◌, All, get_or, Option, None, Some, if◌then◌else◌}
use Rattle.std.proofs.lemmas.Bool.{eq-eqb}
use Rattle.std.proofs.lemmas.List.Elements.{All-nil, All-cons, All-map}
use Rattle.std.specs.List.{range_with_len}
use Rattle.press_wire.specs.Blocks.{block_of, is_first}
use Rattle.press_wire.specs.Held.{IsFormed, IsInForm}
use Rattle.press_wire.specs.declared.ballot.Ballot.{Ballot}
use Rattle.press_wire.specs.declared.vote.Vote.{Vote}
use Rattle.press_wire.specs.declared.votes.SlotVote.{SlotVote}
use Rattle.press_wire.specs.declared.message.Body.{Body}
use Rattle.press_wire.specs.declared.message.Body.TheVariants.{Prepare, Promise, Nack, Accept, Accepted, Query}
use Rattle.press_wire.specs.declared.message.Message.{Message}
use Rattle.press_wire.proofs.Blocks.{one_block}
use Rattle.press_wire.proofs.Collected.{block_within}
use Rattle.press_acceptor.specs.Answers.{answer_to, said_out, query_out}
use Rattle.press_acceptor.specs.Messages.{message_to, to_all}
use Rattle.press_acceptor.specs.StoreMap.{StoreMap, block_votes, promise_of, vote_of}
use Rattle.press_acceptor.specs.Turns.{cast_in, if_less, unless_greater, prepare_by, accept_by, report_of}
use Rattle.press_proposer.specs.Phases.{awaits, can_ask, promises_in, with_promise}
use Rattle.press_proposer.specs.Promises.{is_majority}
use Rattle.press_proposer.specs.Proposing.{ProposerState, Turn, quiet, in_phase}
use Rattle.press_proposer.specs.Turns.{is_content, accepts_in, asks, goes_on, prepares, next_round, wake_turn, proposes, turn_with_promise, promise_turn}
use Rattle.press_proposer.specs.declared.phase.Phase.{Phase}
use Rattle.press_proposer.specs.declared.phase.Phase.TheVariants.{Idle, Preparing, Leading}
use Rattle.press_proposer.specs.declared.promises.Promise as promises
use Rattle.press_learner.specs.Chosen.{has_gap}
use Rattle.press_node.specs.declared.event.Event.{Event}
use Rattle.press_node.specs.declared.event.Event.TheVariants.{Submit, Wake, Deliver}
use Rattle.press_node.specs.NodeEvent.{RunningNode, Answer, quiet as node_quiet, by_proposer, is_at_end, is_for, on_body, on_event}
use Rattle.press_node.proofs.Few.{either}

abbrev AreFormed : List Message → Type 0
AreFormed out = All IsFormed out

always : {X : Type 0} (P : X → Type 0) (xs : List X) → ((x : X) → P x) → All P xs
always P xs h = λ k d below. h (get_or xs k d)

none : AreFormed []
none = All-nil IsFormed

one : (message : Message) → IsFormed message → AreFormed (message ∷ [])
one message h = All-cons IsFormed message [] h none

all : (n id slot : ℕ) (body : Body) → IsInForm slot body → AreFormed (to_all n id slot body)
all n id slot body h = All-map IsFormed (message_to id slot body) (range_with_len 1 n) (always (λ to. IsFormed (message_to id slot body to)) (range_with_len 1 n) (λ to. h))

first_of : (slot : ℕ) → is_first (block_of slot) ≡ true
first_of slot = eq-eqb (block_of (block_of slot)) (block_of slot) (one_block slot)

-- ---- the acceptor

prepare_formed : (n id : ℕ) (store : StoreMap) (asker slot : ℕ) (ballot : Ballot) (o : Option Ballot) → AreFormed (said_out n id (block_of slot) ballot asker (prepare_by o (block_votes store (block_of slot)) (block_of slot) ballot).said)
prepare_formed n id store asker slot ballot None = one (message_to id (block_of slot) (Promise ballot (block_votes store (block_of slot))) asker) (first_of slot, block_within (vote_of store) (block_of slot))
prepare_formed n id store asker slot ballot (Some promised) = one (message_to id (block_of slot) (Nack ballot promised) asker) tt

accept_formed : (n id asker slot : ℕ) (vote : Vote) (c : Option Vote) (o : Option Ballot) → AreFormed (said_out n id slot vote.ballot asker (accept_by c o slot vote).said)
accept_formed n id asker slot vote (Some cast) o = all n id slot (Accepted cast) tt
accept_formed n id asker slot vote None None = all n id slot (Accepted vote) tt
accept_formed n id asker slot vote None (Some promised) = one (message_to id slot (Nack vote.ballot promised) asker) tt

query_formed : (id slot asker : ℕ) (o : Option Vote) → AreFormed (query_out id slot asker (report_of o))
query_formed id slot asker None = none
query_formed id slot asker (Some vote) = one (message_to id slot (Accepted vote) asker) tt

acceptor_formed : (n id : ℕ) (store : StoreMap) (asker slot : ℕ) (body : Body) → AreFormed (answer_to n id store asker slot body).out
acceptor_formed n id store asker slot (Prepare round) =
    let ballot : Ballot = record { round = round; node = asker } in
    prepare_formed n id store asker slot ballot (unless_greater (promise_of store (block_of slot)) ballot)
acceptor_formed n id store asker slot (Accept round value) =
    let ballot : Ballot = record { round = round; node = asker } in
    accept_formed n id asker slot (record { ballot = ballot; value = value }) (cast_in (vote_of store slot) ballot) (if_less (promise_of store (block_of slot)) ballot)
acceptor_formed n id store asker slot Query = query_formed id slot asker (vote_of store slot)
acceptor_formed n id store asker slot (Promise ballot votes) = none
acceptor_formed n id store asker slot (Nack refused promised) = none
acceptor_formed n id store asker slot (Accepted vote) = none

-- ---- the proposer

abbrev IsTurnFormed : Turn → Type 0
IsTurnFormed turn = AreFormed turn.out

accepts_formed : (p : ProposerState) (phase : Phase) (slot : ℕ) → AreFormed (accepts_in p phase slot)
accepts_formed p Idle slot = none
accepts_formed p (Preparing first ballot promises) slot = none
accepts_formed p (Leading first ballot promises asked) slot = all p.members p.id slot _ tt

wake_formed : (store : StoreMap) (p : ProposerState) (applied : ℕ) (gap : Bool) → IsTurnFormed (wake_turn store p applied gap)
wake_formed store p applied gap =
    let round = next_round store p in
    either IsTurnFormed (is_content p gap) (asks p (applied + 1)) (if can_ask p.phase (applied + 1) then goes_on p (applied + 1) else prepares p (block_of (applied + 1)) round)
    (all p.members p.id (applied + 1) Query tt)
    (either IsTurnFormed (can_ask p.phase (applied + 1)) (goes_on p (applied + 1)) (prepares p (block_of (applied + 1)) round)
    (accepts_formed p p.phase (applied + 1))
    (all p.members p.id (block_of (applied + 1)) (Prepare round) (first_of (applied + 1))))

promise_formed : (p : ProposerState) (from block : ℕ) (ballot : Ballot) (votes : List SlotVote) (applied : ℕ) → IsTurnFormed (promise_turn p from block ballot votes applied)
promise_formed p from block ballot votes applied =
    let promise : promises.Promise = record { from = from; votes = votes } in
    let came : List promises.Promise = promises_in p.phase ++ promise ∷ [] in
    either IsTurnFormed (awaits p.phase from block ballot) (turn_with_promise p block ballot (promises_in p.phase) promise (applied + 1)) (quiet p)
    (either IsTurnFormed (is_majority p.members came) (proposes p block ballot came (applied + 1)) (quiet (in_phase p (with_promise p.phase promise)))
    (all p.members p.id (applied + 1) _ tt) none)
    none

-- ---- the node

body_formed : (n id : ℕ) (store : StoreMap) (node : RunningNode) (message : Message) (body : Body) → AreFormed (on_body n id store node message body).out
body_formed n id store node message (Prepare round) = acceptor_formed n id store message.from message.slot message.body
body_formed n id store node message (Accept round value) = acceptor_formed n id store message.from message.slot message.body
body_formed n id store node message Query = acceptor_formed n id store message.from message.slot message.body
body_formed n id store node message (Promise ballot votes) =
    either (λ (a : Answer). AreFormed a.out) (is_at_end node) (node_quiet node) (by_proposer node (promise_turn node.proposer message.from message.slot ballot votes node.learner.applied))
    none (promise_formed node.proposer message.from message.slot ballot votes node.learner.applied)
body_formed n id store node message (Nack refused promised) = none
body_formed n id store node message (Accepted vote) = none

pub event_formed : (n id : ℕ) (store : StoreMap) (node : RunningNode) (event : Event) → AreFormed (on_event n id store node event).out
event_formed n id store node (Submit command) = none
event_formed n id store node Wake = wake_formed store node.proposer node.learner.applied (has_gap node.learner)
event_formed n id store node (Deliver message) =
    either (λ (a : Answer). AreFormed a.out) (is_for n id message) (on_body n id store node message message.body) (node_quiet node) (body_formed n id store node message message.body) none

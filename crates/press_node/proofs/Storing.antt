-- What an answer says is what its save leaves in the store.
use Rattle.std.proofs.Common.{ℕ, ◌+◌, ◌≡◌, Bool, true, false, List, [], ◌∷◌, ◌++◌, All, get_or, Option, None, Some, if◌then◌else◌, refl, arith}
use Rattle.std.proofs.lemmas.List.Elements.{All-nil, All-cons, All-map}
use Rattle.std.specs.List.{range_with_len}
use Rattle.press_wire.specs.Ballots.{is_same}
use Rattle.press_wire.specs.Blocks.{block_of}
use Rattle.press_wire.specs.declared.ballot.Ballot.{Ballot}
use Rattle.press_wire.specs.declared.votes.SlotVote.{SlotVote}
use Rattle.press_wire.specs.declared.vote.Vote.{Vote}
use Rattle.press_wire.specs.declared.message.Body.{Body}
use Rattle.press_wire.specs.declared.message.Body.TheVariants.{Prepare, Promise, Nack, Accept, Accepted, Query}
use Rattle.press_wire.specs.declared.message.Message.{Message}
use Rattle.press_acceptor.specs.Answers.{answer_to, said_out, query_out}
use Rattle.press_acceptor.specs.Messages.{message_to, to_all}
use Rattle.press_acceptor.specs.StoreMap.{StoreMap, block_votes, promise_of, with_any_save, vote_of, with_promise as with_saved, with_round, with_vote}
use Rattle.press_acceptor.specs.Turns.{cast_in, if_less, unless_greater, prepare_by, accept_by, report_of}
use Rattle.press_proposer.specs.Phases.{awaits, can_ask, promises_in, with_promise}
use Rattle.press_proposer.specs.Promises.{is_majority}
use Rattle.press_proposer.specs.Proposing.{ProposerState, Turn, quiet, in_phase}
use Rattle.press_proposer.specs.Turns.{is_content, accepts_in, asks, goes_on, prepares, next_round, wake_turn, proposes, turn_with_promise, promise_turn}
use Rattle.press_proposer.specs.declared.phase.Phase.{Phase}
use Rattle.press_proposer.specs.declared.phase.Phase.TheVariants.{Idle, Preparing, Leading}
use Rattle.press_proposer.specs.declared.promises.Promise as promises
use Rattle.press_learner.specs.Chosen.{has_gap}
use Rattle.press_node.specs.declared.event.Event.{Event}
use Rattle.press_node.specs.declared.event.Event.TheVariants.{Submit, Wake, Deliver}
use Rattle.press_node.specs.Durable.{AreStored, IsAnswerStored, IsStored, IsBodyStored}
use Rattle.press_node.specs.NodeEvent.{RunningNode, quiet as node_quiet, by_proposer, is_at_end, is_for, on_body, on_event}
use Rattle.press_acceptor.proofs.Maps.{get_here}
use Rattle.press_node.proofs.Few.{either}

always : {X : Type 0} (P : X → Type 0) (xs : List X) → ((x : X) → P x) → All P xs
always P xs h = λ k d below. h (get_or xs k d)

none : (store : StoreMap) → AreStored store []
none store = All-nil (IsStored store)

one : (store : StoreMap) (message : Message) → IsStored store message → AreStored store (message ∷ [])
one store message h = All-cons (IsStored store) message [] h (none store)

to_all_stored : (store : StoreMap) (n id slot : ℕ) (body : Body) → IsBodyStored store slot body → AreStored store (to_all n id slot body)
to_all_stored store n id slot body h = All-map (IsStored store) (message_to id slot body) (range_with_len 1 n) (always (λ to. IsStored store (message_to id slot body to)) (range_with_len 1 n) (λ to. h))

-- ---- the acceptor

-- a promise leaves each vote of the block as it is, and a vote is where it was put
prepare_stored : (n id : ℕ) (store : StoreMap) (asker block : ℕ) (ballot : Ballot) (o : Option Ballot) →
    let turn = prepare_by o (block_votes store block) block ballot in
    AreStored (with_any_save store turn.save) (said_out n id block ballot asker turn.said)
prepare_stored n id store asker block ballot None =
    one (with_saved store block ballot) (message_to id block (Promise ballot (block_votes store block)) asker) (get_here store.promises block ballot block refl, refl)
prepare_stored n id store asker block ballot (Some promised) = one store (message_to id block (Nack ballot promised) asker) tt

cast_by : (b : Bool) (vote cast : Vote) → (if b then Some vote else None) ≡ Some cast → Some vote ≡ Some cast
cast_by true vote cast e = e
cast_by false vote cast e = absurd (let x : None ≡ Some cast = e in cc)

cast_is : (o : Option Vote) (ballot : Ballot) (cast : Vote) → cast_in o ballot ≡ Some cast → o ≡ Some cast
cast_is None ballot cast e = absurd (let x : None ≡ Some cast = e in cc)
cast_is (Some vote) ballot cast e = cast_by (is_same vote.ballot ballot) vote cast e

accept_stored : (n id : ℕ) (store : StoreMap) (asker slot : ℕ) (vote : Vote) (c : Option Vote) (o : Option Ballot) → cast_in (vote_of store slot) vote.ballot ≡ c →
    let turn = accept_by c o slot vote in
    AreStored (with_any_save store turn.save) (said_out n id slot vote.ballot asker turn.said)
accept_stored n id store asker slot vote (Some cast) o e = to_all_stored store n id slot (Accepted cast) (cast_is (vote_of store slot) vote.ballot cast e)
accept_stored n id store asker slot vote None None e = to_all_stored (with_vote store slot vote) n id slot (Accepted vote) (get_here store.votes slot vote slot refl)
accept_stored n id store asker slot vote None (Some promised) e = one store (message_to id slot (Nack vote.ballot promised) asker) tt

query_stored : (id : ℕ) (store : StoreMap) (asker slot : ℕ) (o : Option Vote) → vote_of store slot ≡ o → AreStored store (query_out id slot asker (report_of o))
query_stored id store asker slot None e = none store
query_stored id store asker slot (Some vote) e = one store (message_to id slot (Accepted vote) asker) e

acceptor_stored : (n id : ℕ) (store : StoreMap) (asker slot : ℕ) (body : Body) → AreStored (with_any_save store (answer_to n id store asker slot body).save) (answer_to n id store asker slot body).out
acceptor_stored n id store asker slot (Prepare round) =
    let ballot : Ballot = record { round = round; node = asker } in
    prepare_stored n id store asker (block_of slot) ballot (unless_greater (promise_of store (block_of slot)) ballot)
acceptor_stored n id store asker slot (Accept round value) =
    let ballot : Ballot = record { round = round; node = asker } in
    accept_stored n id store asker slot (record { ballot = ballot; value = value }) (cast_in (vote_of store slot) ballot) (if_less (promise_of store (block_of slot)) ballot) refl
acceptor_stored n id store asker slot Query = query_stored id store asker slot (vote_of store slot) refl
acceptor_stored n id store asker slot (Promise ballot votes) = none store
acceptor_stored n id store asker slot (Nack refused promised) = none store
acceptor_stored n id store asker slot (Accepted vote) = none store

-- ---- the proposer

abbrev IsTurnStored : StoreMap → Turn → Type 0
IsTurnStored store turn = AreStored (with_any_save store turn.save) turn.out

accepts_stored : (store : StoreMap) (p : ProposerState) (phase : Phase) (slot : ℕ) → AreStored store (accepts_in p phase slot)
accepts_stored store p Idle slot = none store
accepts_stored store p (Preparing first ballot promises) slot = none store
accepts_stored store p (Leading first ballot promises asked) slot = to_all_stored store p.members p.id slot _ tt

wake_stored : (store : StoreMap) (p : ProposerState) (applied : ℕ) (gap : Bool) → IsTurnStored store (wake_turn store p applied gap)
wake_stored store p applied gap =
    let round = next_round store p in
    either (IsTurnStored store) (is_content p gap) (asks p (applied + 1)) (if can_ask p.phase (applied + 1) then goes_on p (applied + 1) else prepares p (block_of (applied + 1)) round)
    (to_all_stored store p.members p.id (applied + 1) Query tt)
    (either (IsTurnStored store) (can_ask p.phase (applied + 1)) (goes_on p (applied + 1)) (prepares p (block_of (applied + 1)) round)
    (accepts_stored store p p.phase (applied + 1))
    (to_all_stored (with_round store round) p.members p.id (block_of (applied + 1)) (Prepare round) (omega arith)))

counted_stored : (store : StoreMap) (p : ProposerState) (block : ℕ) (ballot : Ballot) (earlier : List promises.Promise) (promise : promises.Promise) (slot : ℕ) → IsTurnStored store (turn_with_promise p block ballot earlier promise slot)
counted_stored store p block ballot earlier promise slot =
    let came : List promises.Promise = earlier ++ promise ∷ [] in
    either (IsTurnStored store) (is_majority p.members came) (proposes p block ballot came slot) (quiet (in_phase p (with_promise p.phase promise)))
    (to_all_stored store p.members p.id slot _ tt) (none store)

promise_stored : (store : StoreMap) (p : ProposerState) (from block : ℕ) (ballot : Ballot) (votes : List SlotVote) (applied : ℕ) → IsTurnStored store (promise_turn p from block ballot votes applied)
promise_stored store p from block ballot votes applied =
    either (IsTurnStored store) (awaits p.phase from block ballot) (turn_with_promise p block ballot (promises_in p.phase) (record { from = from; votes = votes }) (applied + 1)) (quiet p)
    (counted_stored store p block ballot (promises_in p.phase) (record { from = from; votes = votes }) (applied + 1)) (none store)

-- ---- the node

body_stored : (n id : ℕ) (store : StoreMap) (node : RunningNode) (message : Message) (body : Body) → IsAnswerStored store (on_body n id store node message body)
body_stored n id store node message (Prepare round) = acceptor_stored n id store message.from message.slot message.body
body_stored n id store node message (Accept round value) = acceptor_stored n id store message.from message.slot message.body
body_stored n id store node message Query = acceptor_stored n id store message.from message.slot message.body
body_stored n id store node message (Promise ballot votes) =
    either (IsAnswerStored store) (is_at_end node) (node_quiet node) (by_proposer node (promise_turn node.proposer message.from message.slot ballot votes node.learner.applied))
    (none store) (promise_stored store node.proposer message.from message.slot ballot votes node.learner.applied)
body_stored n id store node message (Nack refused promised) = none store
body_stored n id store node message (Accepted vote) = none store

pub event_stored : (n id : ℕ) (store : StoreMap) (node : RunningNode) (event : Event) → IsAnswerStored store (on_event n id store node event)
event_stored n id store node (Submit command) = none store
event_stored n id store node Wake = wake_stored store node.proposer node.learner.applied (has_gap node.learner)
event_stored n id store node (Deliver message) =
    either (IsAnswerStored store) (is_for n id message) (on_body n id store node message message.body) (node_quiet node) (body_stored n id store node message message.body) (none store)

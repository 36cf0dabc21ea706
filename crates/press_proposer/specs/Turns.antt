-- What a proposer does at each event (Paxos Made Simple, 2.2 to 2.5; own: queries, and the order in which promises count).
use Rattle.std.specs.Prelude.{ℕ, ◌+◌, ◌^◌, ◌&&◌, not, nat_lt, Bool, max, None, Some, List, [], ◌∷◌, ◌++◌, if◌then◌else◌}
use Rattle.press_acceptor.specs.Messages.{to_all}
use Rattle.press_acceptor.specs.StoreMap.{StoreMap}
use Rattle.press_acceptor.specs.StoreMap.Save.{SaveRound}
use Rattle.press_apply.specs.declared.command.Stamped.{Stamped}
use Rattle.press_apply.specs.declared.value.Value.{Value}
use Rattle.press_wire.specs.Blocks.{block_of, is_last}
use Rattle.press_wire.specs.declared.ballot.Ballot.{Ballot}
use Rattle.press_wire.specs.declared.message.Body.TheVariants.{Prepare, Accept, Query}
use Rattle.press_wire.specs.declared.message.Message.{Message}
use Rattle.press_wire.specs.declared.votes.SlotVote.{SlotVote}
use Rattle.press_proposer.specs.Phases.{awaits, can_ask, is_current, leading_phase, promises_in, with_promise}
use Rattle.press_proposer.specs.Promises.{is_majority, best_of, choice}
use Rattle.press_proposer.specs.Proposing.{ProposerState, Turn, quiet, in_phase, with_queue}
use Rattle.press_proposer.specs.Queues.{is_empty, without}
use Rattle.press_proposer.specs.declared.phase.Phase.{Phase}
use Rattle.press_proposer.specs.declared.phase.Phase.TheVariants.{Idle, Preparing, Leading}
use Rattle.press_proposer.specs.declared.promises.Promise.{Promise}

-- ---- a command comes: it waits behind the others

abbrev pub queued_by : ProposerState → Stamped → ProposerState
queued_by p command = with_queue p (p.queue ++ command ∷ [])

-- ---- a wake, where the values of so many slots were applied: with nothing to propose it asks what was chosen for the next slot; else, where it leads the
-- block and has a proposal left for that slot, it asks for votes; else it prepares the block in a new round, which is saved before it is sent

-- nothing waits, and no vote is beyond the next slot
abbrev pub is_content : ProposerState → Bool → Bool
is_content p gap = is_empty p.queue && not gap

-- one more than the greatest that was saved or reported
abbrev pub next_round : StoreMap → ProposerState → ℕ
next_round store p = max store.last_round p.nacked + 1

abbrev pub asks : ProposerState → ℕ → Turn
asks p slot = record { save = None; after = p; out = to_all p.members p.id slot Query }

-- it asks for votes for the slot: for what these promises leave to propose
abbrev pub accepts : ProposerState → Ballot → List Promise → ℕ → List Message
accepts p ballot promises slot = to_all p.members p.id slot (Accept ballot.round (choice (best_of slot promises) p.queue))

-- as the leader of its block
abbrev pub accepts_in : ProposerState → Phase → ℕ → List Message
accepts_in p Idle slot = []
accepts_in p (Preparing first ballot promises) slot = []
accepts_in p (Leading first ballot promises asked) slot = accepts p ballot promises slot

abbrev pub goes_on : ProposerState → ℕ → Turn
goes_on p slot = record { save = None; after = in_phase p (leading_phase p.phase slot); out = accepts_in p p.phase slot }

abbrev pub prepares : ProposerState → ℕ → ℕ → Turn
prepares p block round = record {
  save = Some (SaveRound round block);
  after = in_phase p (Preparing block (record { round = round; node = p.id }) []);
  out = to_all p.members p.id block (Prepare round);
}

abbrev pub wake_turn : StoreMap → ProposerState → ℕ → Bool → Turn
wake_turn store p applied gap =
    if is_content p gap then asks p (applied + 1)
    else (if can_ask p.phase (applied + 1) then goes_on p (applied + 1) else prepares p (block_of (applied + 1)) (next_round store p))

-- a round is wanted, and none is left
abbrev pub is_used_up : StoreMap → ProposerState → ℕ → Bool → Bool
is_used_up store p applied gap = not (is_content p gap) && (not (can_ask p.phase (applied + 1)) && nat_lt (2 ^ 40) (next_round store p))

-- ---- a promise comes: the first of each member counts for the block and ballot that are prepared, and with a majority the proposer leads the block, and
-- asks for votes for the next slot

abbrev pub proposes : ProposerState → ℕ → Ballot → List Promise → ℕ → Turn
proposes p block ballot promises slot = record {
  save = None;
  after = in_phase p (Leading block ballot promises slot);
  out = accepts p ballot promises slot;
}

abbrev pub turn_with_promise : ProposerState → ℕ → Ballot → List Promise → Promise → ℕ → Turn
turn_with_promise p block ballot earlier promise slot =
    let promises : List Promise = earlier ++ promise ∷ [] in
    if is_majority p.members promises then proposes p block ballot promises slot else quiet (in_phase p (with_promise p.phase promise))

abbrev pub promise_turn : ProposerState → ℕ → ℕ → Ballot → List SlotVote → ℕ → Turn
promise_turn p from block ballot votes applied =
    if awaits p.phase from block ballot
    then turn_with_promise p block ballot (promises_in p.phase) (record { from = from; votes = votes }) (applied + 1)
    else quiet p

-- ---- a refusal comes: it ends what is done for the block of its slot in its ballot, and the next round will be greater than what was promised

abbrev pub nacked_by : ProposerState → ℕ → Ballot → Ballot → ProposerState
nacked_by p slot ballot promised = record {
  id = p.id;
  members = p.members;
  queue = p.queue;
  phase = if is_current p.phase slot ballot then Idle else p.phase;
  nacked = max p.nacked promised.round;
}

-- ---- a value was applied: with the last slot of a block the proposer is idle, and a command that is the value waits no more

abbrev pub applied_by : ProposerState → ℕ → Value → ProposerState
applied_by p slot value = in_phase (with_queue p (without value p.queue)) (if is_last slot then Idle else p.phase)

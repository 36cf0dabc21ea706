-- Which calls of its store each event makes, where it may take memory of its own, and what it saves
-- (own): a message that is ignored takes no memory, nor does a refusal, a promise that doesn't
-- count, a vote that isn't the first of all that are kept, where nothing is chosen, or a query for
-- a slot without a vote.
use Rattle.std.specs.Prelude.{ℕ, ◌+◌, ◌≡◌, ◌⊎◌, IsTrue, IsSome, Bool, true, false, List, []}
use Rattle.press_wire.specs.declared.ballot.Ballot.{Ballot}
use Rattle.press_wire.specs.declared.message.Body.{Body}
use Rattle.press_wire.specs.declared.message.Body.TheVariants.{Prepare, Promise, Nack, Accept, Accepted, Query}
use Rattle.press_wire.specs.declared.message.Message.{Message}
use Rattle.press_wire.specs.declared.vote.Vote.{Vote}
use Rattle.press_acceptor.specs.Plans.{TakesForAnswer, answer_calls}
use Rattle.press_acceptor.specs.Seen.{Call}
use Rattle.press_acceptor.specs.StoreMap.{StoreMap}
use Rattle.press_acceptor.specs.Turned.{Plan}
use Rattle.press_learner.specs.Chosen.{chosen_next, has_gap}
use Rattle.press_learner.specs.Kept.{KeptVotes, KeepsNone, is_in_window, with_vote}
use Rattle.press_proposer.specs.Phases.{awaits, can_ask}
use Rattle.press_proposer.specs.Turns.{is_content}
use Rattle.press_proposer.specs.Wakes.{wake_calls}
use Rattle.press_node.specs.declared.event.Event.{Event}
use Rattle.press_node.specs.declared.event.Event.TheVariants.{Submit, Wake, Deliver}
use Rattle.press_node.specs.NodeEvent.{RunningNode, is_at_end, is_for, on_body, on_event}

-- the vote is for a slot of the window, and the first of all that are kept; or with it a value is
-- chosen, which is applied
abbrev pub TakesForVote : KeptVotes → ℕ → ℕ → Vote → Type 0
TakesForVote learner from slot vote = (IsTrue (is_in_window learner.applied slot) × KeepsNone learner) ⊎ IsSome (chosen_next (with_vote learner from slot vote))

-- a promise that counts, where a slot is left
abbrev pub TakesForPromise : RunningNode → ℕ → ℕ → Ballot → Type 0
TakesForPromise node from block ballot = (is_at_end node ≡ false) × IsTrue (awaits node.proposer.phase from block ballot)

abbrev pub TakesForBody : RunningNode → Message → Body → StoreMap → Type 0
TakesForBody node message (Prepare round) kept = TakesForAnswer message.slot (Prepare round) kept
TakesForBody node message (Accept round value) kept = TakesForAnswer message.slot (Accept round value) kept
TakesForBody node message Query kept = TakesForAnswer message.slot Query kept
TakesForBody node message (Promise ballot votes) kept = TakesForPromise node message.from message.slot ballot
TakesForBody node message (Nack refused promised) kept = ⊥
TakesForBody node message (Accepted vote) kept = TakesForVote node.learner message.from message.slot vote

-- a message for the node, from a member
abbrev pub body_plan : ℕ → ℕ → RunningNode → Message → Body → Plan
body_plan members id node message body = record {
  calls = answer_calls message.slot body;
  takes = TakesForBody node message body;
  save = λ kept. (on_body members id kept node message body).save;
}

-- and nothing where it is ignored
abbrev pub TakesWhere : Bool → Type 0 → Type 0
TakesWhere true takes = takes
TakesWhere false takes = ⊥

abbrev pub calls_where : Bool → List Call → List Call
calls_where true calls = calls
calls_where false calls = []

abbrev pub event_calls : ℕ → ℕ → RunningNode → Event → List Call
event_calls members id node (Submit command) = []
event_calls members id node Wake = wake_calls node.proposer node.learner.applied (has_gap node.learner)
event_calls members id node (Deliver message) = calls_where (is_for members id message) (answer_calls message.slot message.body)

abbrev pub TakesMemory : ℕ → ℕ → RunningNode → Event → StoreMap → Type 0
TakesMemory members id node (Submit command) kept = Unit {0}
TakesMemory members id node Wake kept = Unit {0}
TakesMemory members id node (Deliver message) kept = TakesWhere (is_for members id message) (TakesForBody node message message.body kept)

abbrev pub event_plan : ℕ → ℕ → RunningNode → Event → Plan
event_plan members id node event = record {
  calls = event_calls members id node event;
  takes = TakesMemory members id node event;
  save = λ kept. (on_event members id kept node event).save;
}

-- a wake with something to propose
abbrev pub WantsRound : RunningNode → Event → Type 0
WantsRound node (Submit command) = ⊥
WantsRound node Wake = (is_content node.proposer (has_gap node.learner) ≡ false) × (can_ask node.proposer.phase (node.learner.applied + 1) ≡ false)
WantsRound node (Deliver message) = ⊥

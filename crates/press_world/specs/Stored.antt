-- The world as it is stored: the trace is a list of entries.
use Rattle.std.specs.Prelude.{ℕ, ◌+◌, ◌-◌, Bool, true, false, Option, None, Some, List, [], ◌∷◌, ◌++◌, length, slice_get, slice_set}
use Rattle.press_wire.specs.declared.message.Body.{Body}
use Rattle.press_wire.specs.declared.message.Body.TheVariants.{Prepare, Promise, Nack, Accept, Accepted, Query}
use Rattle.press_wire.specs.declared.message.Message.{Message}
use Rattle.press_acceptor.specs.StoreMap.{Save}
use Rattle.press_acceptor.specs.StoreMap.Save.{SaveRound, SavePromise, SaveVote}
use Rattle.press_node.specs.declared.event.Event.{Event}
use Rattle.press_node.specs.declared.event.Event.TheVariants as event
use Rattle.press_node.specs.NodeEvent.{RunningNode, Answer, fresh, on_event}
use Rattle.press_node.specs.Refusals.{refusal}
use Rattle.press_world.specs.Entries.{facts_after}
use Rattle.press_world.specs.Worlds.{Place, World, saves, sends, left_up, store_after, refusal_before, unless_refused, index_of, at_index, new_places}
use Rattle.press_world.specs.declared.entry.Entry.{Entry}
use Rattle.press_world.specs.declared.entry.Entry.TheVariants.{Prepared, Promised, Proposed, Voted}
use Rattle.press_world.specs.declared.step.Cut.{Cut}
use Rattle.press_world.specs.declared.step.Step.{Step}
use Rattle.press_world.specs.declared.step.Step.TheVariants.{Submit, Wake, Deliver, Restart, Get}

pub record StoredWorld : Type 0 where
  pub places : List Place
  pub sent : List Message
  -- oldest first
  pub entries : List Entry

-- the world that is stored so
abbrev pub world_of : StoredWorld → World
world_of s = record { places = s.places; sent = s.sent; trace = facts_after s.sent [] s.entries }

-- the entry of a member's save, where the message at this index came to it
abbrev pub entry_of : ℕ → ℕ → Save → Entry
entry_of member which (SaveRound round block) = Prepared round member block
entry_of member which (SavePromise slot ballot) = Promised member ballot slot
entry_of member which (SaveVote slot vote) = Voted member which

abbrev pub entries_after_save : List Entry → ℕ → ℕ → Bool → Option Save → List Entry
entries_after_save entries member which true (Some save) = entries ++ entry_of member which save ∷ []
entries_after_save entries member which true None = entries
entries_after_save entries member which false save = entries

abbrev pub with_proposal_entry : List Entry → ℕ → Body → List Entry
with_proposal_entry entries count (Accept round value) = entries ++ Proposed count ∷ []
with_proposal_entry entries count (Prepare round) = entries
with_proposal_entry entries count (Promise ballot vote) = entries
with_proposal_entry entries count (Nack refused promised) = entries
with_proposal_entry entries count (Accepted vote) = entries
with_proposal_entry entries count Query = entries

-- where this many messages were sent before
abbrev pub entries_after_sending : List Entry → ℕ → List Message → List Entry
entries_after_sending entries count [] = entries
entries_after_sending entries count (message ∷ messages) = with_proposal_entry entries count message.body

abbrev pub stored_effect : StoredWorld → ℕ → ℕ → Place → Option Cut → Answer → StoredWorld
stored_effect s which index place cut answer =
    record {
      places = slice_set s.places index (record { store = store_after place.store (saves cut) answer.save; up = left_up cut answer.after });
      sent = s.sent ++ sends cut answer.out;
      entries = entries_after_sending (entries_after_save s.entries (index + 1) which (saves cut) answer.save) (length s.sent) (sends cut answer.out);
    }

abbrev pub stored_does_at : ℕ → StoredWorld → ℕ → ℕ → Place → Option RunningNode → Event → Option Cut → StoredWorld
stored_does_at n s which index place None event cut = s
stored_does_at n s which index place (Some node) event cut =
    unless_refused (refusal_before cut (refusal place.store (Some node) event)) (stored_effect s which index place cut (on_event n (index + 1) place.store node event)) s

abbrev pub stored_does : ℕ → StoredWorld → ℕ → ℕ → Option Place → Event → Option Cut → StoredWorld
stored_does n s which index None event cut = s
stored_does n s which index (Some place) event cut = stored_does_at n s which index place place.up event cut

abbrev pub stored_comes : ℕ → StoredWorld → ℕ → Option Message → Option Cut → StoredWorld
stored_comes n s which None cut = s
stored_comes n s which (Some message) cut = stored_does n s which (message.to - 1) (slice_get s.places (message.to - 1)) (event.Deliver message) cut

abbrev pub stored_restarts : ℕ → StoredWorld → ℕ → Option Place → StoredWorld
stored_restarts n s index None = s
stored_restarts n s index (Some place) = record { places = slice_set s.places index (record { store = place.store; up = Some (fresh n (index + 1) place.store.last_round) }); sent = s.sent; entries = s.entries }

abbrev pub stored_step : ℕ → StoredWorld → Step → StoredWorld
stored_step n s (Submit number command cut) = at_index (index_of (length s.places) number) (λ index. stored_does n s 0 index (slice_get s.places index) (event.Submit command) cut) s
stored_step n s (Wake number cut) = at_index (index_of (length s.places) number) (λ index. stored_does n s 0 index (slice_get s.places index) event.Wake cut) s
stored_step n s (Deliver number cut) = at_index (index_of (length s.sent) number) (λ which. stored_comes n s which (slice_get s.sent which) cut) s
stored_step n s (Restart number) = at_index (index_of (length s.places) number) (λ index. stored_restarts n s index (slice_get s.places index)) s
stored_step n s (Get number target) = s

abbrev pub new_stored : ℕ → StoredWorld
new_stored n = record { places = new_places n 1 n; sent = []; entries = [] }

-- after a list of steps
abbrev pub stored_run : ℕ → List Step → StoredWorld → StoredWorld
stored_run n [] s = s
stored_run n (x ∷ steps) s = stored_run n steps (stored_step n s x)

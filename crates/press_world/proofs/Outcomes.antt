-- A step that was played or refused has the outcome that its line shows, and a step that is refused
-- leaves the world.
use Rattle.std.proofs.Common.{ℕ, ◌+◌, ◌-◌, ◌≡◌, ◌≢◌, Bool, true, false, List, length, slice_get, Option, None, Some, option_and_then, option_map, Result, Ok, Err, OnOk, OnErr, refl, sym, subst, ap, ◌∙◌}
use Rattle.std.specs.Io.KnownBytes.{Appends}
use Rattle.press_callbacks.specs.Kits.{KitView}
use Rattle.press_text.specs.Streams.{AppendsFront}
use Rattle.press_world.specs.Transcript.{step_line}
use Rattle.press_wire.specs.declared.message.Message.{Message}
use Rattle.press_node.specs.declared.event.Event.{Event}
use Rattle.press_node.specs.declared.event.Event.TheVariants as event
use Rattle.press_node.specs.declared.fault.NodeFault.{NodeFault}
use Rattle.press_node.specs.declared.fault.NodeFault.TheVariants.{NoMemory}
use Rattle.press_node.specs.Faults.{stops}
use Rattle.press_node.specs.NodeEvent.{RunningNode, on_event}
use Rattle.press_node.specs.Refusals.{refusal}
use Rattle.press_world.specs.Refusing.{missing_fault, receiver, event_refusal, delivery_refusal, step_refusal}
use Rattle.press_world.specs.Replays.{line_of, outcome, outcome_where, to_in, WritesLines}
use Rattle.press_world.specs.Stepped.{FailsBy, Steps, with_cut}
use Rattle.press_world.specs.Stored.{StoredWorld, stored_comes, stored_does, stored_does_at, stored_effect, stored_restarts, stored_step}
use Rattle.press_world.specs.Telling.{step_result}
use Rattle.press_world.specs.Worlds.{Place, at_index, index_of, refusal_before, unless_refused}
use Rattle.press_world.specs.declared.fault.WorldFault.{WorldFault}
use Rattle.press_world.specs.declared.fault.WorldFault.TheVariants.{NoSuchMessage, NoSuchNode, Node}
use Rattle.press_world.specs.declared.played.Played.{Played}
use Rattle.press_world.specs.declared.step.Cut.{Cut}
use Rattle.press_world.specs.declared.step.Step.{Step}
use Rattle.press_world.specs.declared.step.Step.TheVariants.{Submit, Wake, Deliver, Restart, Get}

-- ---- a step that is refused

does_stays : (n : ℕ) (s : StoredWorld) (which index : ℕ) (o : Option Place) (e : Event) (cut : Option Cut) (f : WorldFault) → event_refusal o e cut ≡ Some f → stored_does n s which index o e cut ≡ s
does_stays n s which index None e cut f h = refl
does_stays n s which index (Some place) e cut f h = go place.up h
  where
    by : (r : Option NodeFault) (t : StoredWorld) → option_map Node r ≡ Some f → unless_refused r t s ≡ s
    by None t h = let q : None ≡ Some f = h in cc
    by (Some g) t h = refl

    go : (up : Option RunningNode) → event_refusal (Some (record { store = place.store; up = up })) e cut ≡ Some f → stored_does_at n s which index place up e cut ≡ s
    go None h = refl
    go (Some node) h = by (refusal_before cut (refusal place.store (Some node) e)) (stored_effect s which index place cut (on_event n (index + 1) place.store node e)) h

named_stays : (n : ℕ) (s : StoredWorld) (o : Option ℕ) (e : Event) (cut : Option Cut) (f : WorldFault) → event_refusal (option_and_then (slice_get s.places) o) e cut ≡ Some f → at_index o (λ i. stored_does n s 0 i (slice_get s.places i) e cut) s ≡ s
named_stays n s None e cut f h = refl
named_stays n s (Some i) e cut f h = does_stays n s 0 i (slice_get s.places i) e cut f h

comes_stays : (n : ℕ) (s : StoredWorld) (o : Option ℕ) (cut : Option Cut) (f : WorldFault) → delivery_refusal s (option_and_then (slice_get s.sent) o) cut ≡ Some f → at_index o (λ w. stored_comes n s w (slice_get s.sent w) cut) s ≡ s
comes_stays n s None cut f h = refl
comes_stays n s (Some w) cut f h = go (slice_get s.sent w) h
  where
    go : (m : Option Message) → delivery_refusal s m cut ≡ Some f → stored_comes n s w m cut ≡ s
    go None h = refl
    go (Some message) h = does_stays n s w (message.to - 1) (receiver s message) (event.Deliver message) cut f h

restart_stays : (n : ℕ) (s : StoredWorld) (o : Option ℕ) (f : WorldFault) → missing_fault (option_and_then (slice_get s.places) o) ≡ Some f → at_index o (λ i. stored_restarts n s i (slice_get s.places i)) s ≡ s
restart_stays n s None f h = refl
restart_stays n s (Some i) f h = go (slice_get s.places i) h
  where
    go : (p : Option Place) → missing_fault p ≡ Some f → stored_restarts n s i p ≡ s
    go None h = refl
    go (Some place) h = let q : None ≡ Some f = h in cc

pub refused_stays : (n : ℕ) (s : StoredWorld) (x : Step) (f : WorldFault) → step_refusal s x ≡ Some f → stored_step n s x ≡ s
refused_stays n s (Submit number command cut) f h = named_stays n s (index_of (length s.places) number) (event.Submit command) cut f h
refused_stays n s (Wake number cut) f h = named_stays n s (index_of (length s.places) number) event.Wake cut f h
refused_stays n s (Deliver number cut) f h = comes_stays n s (index_of (length s.sent) number) cut f h
refused_stays n s (Restart number) f h = restart_stays n s (index_of (length s.places) number) f h
refused_stays n s (Get number target) f h = refl

-- ---- outcomes

refused_so : (kit : KitView) (n : ℕ) (s t : StoredWorld) (x : Step) (f : WorldFault) → step_refusal s x ≡ Some f → t ≡ s → (t ≡ stored_step n s x) × (Err f ≡ outcome kit n s x)
refused_so kit n s t x f h e = (e ∙ sym (refused_stays n s x f h), sym (ap (λ o. outcome_where o (step_result kit s (stored_step n s x) x)) h))

pub as_outcome : (kit : KitView) (n : ℕ) (s t : StoredWorld) (x : Step) (r : Result Played WorldFault) → Steps kit n s x t r → r ≢ Err (Node NoMemory) → (t ≡ stored_step n s x) × (r ≡ outcome kit n s x)
as_outcome kit n s t x (Ok played) h not_wanting =
    (h.1, sym (ap (λ o. outcome_where o (step_result kit s (stored_step n s x) x)) h.0 ∙ ap (λ (u : StoredWorld). Ok (step_result kit s u x)) (sym h.1) ∙ ap Ok (sym h.2)))
as_outcome kit n s t x (Err NoSuchMessage) h not_wanting = refused_so kit n s t x NoSuchMessage h.0 h.1
as_outcome kit n s t x (Err NoSuchNode) h not_wanting = refused_so kit n s t x NoSuchNode h.0 h.1
as_outcome kit n s t x (Err (Node fault)) h not_wanting = go (stops fault) h
  where
    go : (b : Bool) → FailsBy s (λ stop. stored_step n s (with_cut x stop)) (step_refusal s x) fault b t → (t ≡ stored_step n s x) × (Err (Node fault) ≡ outcome kit n s x)
    go true h = absurd (not_wanting (ap (λ f. Err (Node f)) h.0))
    go false h = refused_so kit n s t x (Node fault) h.0 h.1

-- ---- lines

pub on_ok : {T E : Type 0} {P : Type 0} (r : Result T E) → P → OnOk r P
on_ok (Ok x) p = p
on_ok (Err e) p = tt

pub as_lines : {T E : Type 0} (r : Result T E) (bytes wanted : List ℕ) (old new : Option (List ℕ)) → bytes ≡ wanted → OnOk r (Appends old new bytes) → OnErr r (AppendsFront old new bytes) → WritesLines wanted old new r
as_lines (Ok x) bytes wanted old new e a f = subst (Appends old new) e a
as_lines (Err x) bytes wanted old new e a f = subst (AppendsFront old new) e f

pub line_is : (kit : KitView) (n number : ℕ) (s t : StoredWorld) (x : Step) (r : Result Played WorldFault) → (t ≡ stored_step n s x) × (r ≡ outcome kit n s x) → step_line (to_in t x) number x r ≡ line_of kit n number s x
line_is kit n number s t x r h = ap (λ (u : StoredWorld). step_line (to_in u x) number x r) h.0 ∙ ap (λ o. step_line (to_in (stored_step n s x) x) number x o) h.1

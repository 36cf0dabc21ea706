-- A turn of one node, written down, is a step of the stored world.
use Rattle.std.proofs.Common.{ℕ, zero, suc, ◌+◌, ◌≡◌, ◌⊎◌, inr, Bool, true, false, cond, List, [], ◌∷◌, ◌++◌, length, slice_get, slice_set, Option, None, Some, option_map, refl, sym, subst, ap, ◌∙◌, append-nil}
use Rattle.press_wire.specs.declared.message.Message.{Message}
use Rattle.press_acceptor.specs.StoreMap.{StoreMap, Save}
use Rattle.press_node.specs.declared.event.Event.{Event}
use Rattle.press_node.specs.declared.event.Event.TheVariants as event
use Rattle.press_node.specs.declared.fault.NodeFault.{NodeFault}
use Rattle.press_node.specs.declared.fault.NodeFault.TheVariants.{SlotsUsedUp}
use Rattle.press_node.specs.Faults.{stops}
use Rattle.press_node.specs.NodeEvent.{RunningNode, Answer, on_event}
use Rattle.press_node.specs.Refusals.{is_at_end, or_next, refusal, refusal_by_rounds}
use Rattle.press_world.specs.Acts.{DoesAt, Fails, FailsAt, UnlessFirst}
use Rattle.press_world.specs.Seen.{seen_at, entry_between, with_entry, proposal_entry, IsTold, IsAbout}
use Rattle.press_world.specs.Refusing.{event_refusal}
use Rattle.press_world.specs.Stepped.{cut_of, IsCut, FailsBy}
use Rattle.press_world.specs.declared.fault.WorldFault.TheVariants.{Node}
use Rattle.press_world.specs.Stored.{StoredWorld, stored_effect, stored_does, entries_after_save, entries_after_sending}
use Rattle.press_world.specs.Worlds.{Place, saves, left_up, store_after, refusal_before, unless_refused}
use Rattle.press_world.specs.declared.step.Cut.{Cut}
use Rattle.press_world.specs.declared.step.Cut.TheVariants.{BeforeSave, AfterSave, AfterMessages}
use Rattle.press_world.proofs.Told.{event_told, saved_told, unsaved_told, left_told, proposal_told}

pub set_same : {X : Type 0} (xs : List X) (i : ℕ) (x : X) → slice_get xs i ≡ Some x → slice_set xs i x ≡ xs
set_same [] i x e = refl
set_same (y ∷ xs) zero x e = let h : y ≡ x = cc in ap (λ z. z ∷ xs) (sym h)
set_same (y ∷ xs) (suc i) x e = ap (λ ys. y ∷ ys) (set_same xs i x e)

not_at_end : (store : StoreMap) (node : RunningNode) (e : Event) → refusal store (Some node) e ≡ None → e ≡ event.Wake → is_at_end node ≡ false
not_at_end store node e r is = go (is_at_end node) (refusal_by_rounds store node event.Wake) refl (ap (refusal store (Some node)) (sym is) ∙ r)
  where
    go : (b : Bool) (o : Option NodeFault) → is_at_end node ≡ b → or_next (cond b (Some SlotsUsedUp) None) o ≡ None → is_at_end node ≡ false
    go true o h k = let q : Some SlotsUsedUp ≡ None = k in cc
    go false o h k = h

-- a save comes after the refusals were looked for
looked_for : (cut : Option Cut) (r : Option NodeFault) → refusal_before cut r ≡ None → saves cut ≡ true → r ≡ None
looked_for None r e s = e
looked_for (Some BeforeSave) r e s = cc
looked_for (Some AfterSave) r e s = e
looked_for (Some (AfterMessages count)) r e s = e

module _ (n : ℕ) (s : StoredWorld) (which index slot : ℕ) (store : StoreMap) where
  -- the world as the code leaves it
  abbrev pub written : Place → List Message → StoredWorld
  written new out = record {
    places = slice_set s.places index new;
    sent = s.sent ++ out;
    entries = with_entry (with_entry s.entries (entry_between (seen_at store slot) (seen_at new.store slot) (index + 1) which slot)) (proposal_entry out (length s.sent));
  }

  saved_entries : (b : Bool) (save : Option Save) (t : StoreMap) → (b ≡ true → IsTold store slot save) → t ≡ store_after store b save →
      with_entry s.entries (entry_between (seen_at store slot) (seen_at t slot) (index + 1) which slot) ≡ entries_after_save s.entries (index + 1) which b save
  saved_entries true save t told e =
      ap (λ (x : StoreMap). with_entry s.entries (entry_between (seen_at store slot) (seen_at x slot) (index + 1) which slot)) e ∙ saved_told store slot save (index + 1) which s.entries (told refl)
  saved_entries false save t told e = unsaved_told store t slot (index + 1) which s.entries e

  pub does_step : (up : Option RunningNode) (e : Event) (cut : Option Cut) (out : List Message) (new : Place) →
      slice_get s.places index ≡ Some (record { store = store; up = up }) → IsAbout up e slot → DoesAt n (index + 1) store up e cut out new →
      written new out ≡ stored_does n s which index (slice_get s.places index) e cut
  does_step None e cut out new at about d = absurd d
  does_step (Some node) e cut out new at about d =
      let a = on_event n (index + 1) store node e in
      let told = λ (t : saves cut ≡ true). event_told n (index + 1) store node e slot about (not_at_end store node e (looked_for cut (refusal store (Some node) e) d.passes t)) in
      let one = saved_entries (saves cut) a.save new.store told d.store in
      let two = ap (λ x. with_entry x (proposal_entry out (length s.sent))) one
      ∙ proposal_told (entries_after_save s.entries (index + 1) which (saves cut) a.save) (length s.sent) out
      ∙ ap (entries_after_sending (entries_after_save s.entries (index + 1) which (saves cut) a.save) (length s.sent)) d.messages in
      let place : new ≡ record { store = store_after store (saves cut) a.save; up = left_up cut a.after } = λ i. record { store = d.store i; up = d.up i } in
      let effect : written new out ≡ stored_effect s which index (record { store = store; up = Some node }) cut a =
      λ i. record { places = slice_set s.places index (place i); sent = s.sent ++ d.messages i; entries = two i } in
      effect
      ∙ ap (λ o. unless_refused o (stored_effect s which index (record { store = store; up = Some node }) cut a) s) (sym d.passes)
      ∙ ap (λ o. stored_does n s which index o e cut) (sym at)

  -- ---- a fault

  abbrev pub left : Place → StoredWorld
  left new = record {
    places = slice_set s.places index new;
    sent = s.sent;
    entries = with_entry s.entries (entry_between (seen_at store slot) (seen_at new.store slot) (index + 1) which slot);
  }

  unchanged : (up : Option RunningNode) (new : Place) → slice_get s.places index ≡ Some (record { store = store; up = up }) → new ≡ record { store = store; up = up } → left new ≡ s
  unchanged up new at e =
      ap left e
      ∙ (λ i. record {
        places = set_same s.places index (record { store = store; up = up }) at i;
        sent = s.sent;
        entries = unsaved_told store store slot (index + 1) which s.entries refl i;
      })

  stopped : (node : RunningNode) (new : Place) (e : Event) → slice_get s.places index ≡ Some (record { store = store; up = Some node }) → IsAbout (Some node) e slot →
      refusal store (Some node) e ≡ None → new.up ≡ None → (new.store ≡ store) ⊎ (new.store ≡ store_after store true (on_event n (index + 1) store node e).save) →
      IsCut (λ cut. stored_does n s which index (slice_get s.places index) e cut) (left new)
  stopped node new e at about r u l =
      let a = on_event n (index + 1) store node e in
      let told = event_told n (index + 1) store node e slot about (not_at_end store node e r) in
      let k = left_told store new.store slot a.save (index + 1) which s.entries told l in
      (k.0, by k.0 a k.1 k.2 ∙ (ap (λ o. unless_refused o (stored_effect s which index (record { store = store; up = Some node }) (Some (cut_of k.0)) a) s) (sym (late k.0)) ∙ ap (λ o. stored_does n s which index o e (Some (cut_of k.0))) (sym at)))
    where
      late : (b : Bool) → refusal_before (Some (cut_of b)) (refusal store (Some node) e) ≡ None
      late true = r
      late false = refl

      by : (b : Bool) (a : Answer) → new.store ≡ store_after store b a.save → with_entry s.entries (entry_between (seen_at store slot) (seen_at new.store slot) (index + 1) which slot) ≡ entries_after_save s.entries (index + 1) which b a.save →
          left new ≡ stored_effect s which index (record { store = store; up = Some node }) (Some (cut_of b)) a
      by true a x y = λ i. record { places = slice_set s.places index (record { store = x i; up = u i }); sent = sym (append-nil s.sent) i; entries = y i }
      by false a x y = λ i. record { places = slice_set s.places index (record { store = x i; up = u i }); sent = sym (append-nil s.sent) i; entries = y i }

  pub fails_step : (up : Option RunningNode) (e : Event) (cut : Option Cut) (fault : NodeFault) (new : Place) →
      slice_get s.places index ≡ Some (record { store = store; up = up }) → IsAbout up e slot → FailsAt n (index + 1) store up e cut fault new →
      FailsBy s (λ cut. stored_does n s which index (slice_get s.places index) e cut) (event_refusal (slice_get s.places index) e cut) fault (stops fault) (left new)
  fails_step None e cut fault new at about f =
      subst (λ b. FailsBy s (λ cut. stored_does n s which index (slice_get s.places index) e cut) (event_refusal (slice_get s.places index) e cut) fault b (left new)) (sym (ap stops f.0)) (
        ap (λ o. event_refusal o e cut) at ∙ ap (λ x. Some (Node x)) (sym f.0),
        unchanged None new at f.1,
      )
  fails_step (Some node) e cut fault new at about f = first cut f
    where
      by : (cut : Option Cut) (b : Bool) → refusal_before cut (refusal store (Some node) e) ≡ refusal store (Some node) e →
          Fails (on_event n (index + 1) store node e) (refusal store (Some node) e) fault b (record { store = store; up = Some node }) new →
          FailsBy s (λ cut. stored_does n s which index (slice_get s.places index) e cut) (event_refusal (slice_get s.places index) e cut) fault b (left new)
      by cut true h x = (x.0, ap (λ o. event_refusal o e cut) at ∙ ap (option_map Node) (h ∙ x.1), inr (stopped node new e at about x.1 x.2 x.3))
      by cut false h x = (ap (λ o. event_refusal o e cut) at ∙ ap (option_map Node) (h ∙ x.0), unchanged (Some node) new at x.1)

      first : (cut : Option Cut) → UnlessFirst cut (Fails (on_event n (index + 1) store node e) (refusal store (Some node) e) fault (stops fault) (record { store = store; up = Some node }) new) →
          FailsBy s (λ cut. stored_does n s which index (slice_get s.places index) e cut) (event_refusal (slice_get s.places index) e cut) fault (stops fault) (left new)
      first None x = by None (stops fault) refl x
      first (Some BeforeSave) x = absurd x
      first (Some AfterSave) x = by (Some AfterSave) (stops fault) refl x
      first (Some (AfterMessages count)) x = by (Some (AfterMessages count)) (stops fault) refl x

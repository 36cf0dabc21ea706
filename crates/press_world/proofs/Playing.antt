-- A step keeps a stored world sound, and adds facts alone.
use Rattle.std.proofs.Common.{ℕ, suc, ◌+◌, ◌≡◌, ◌⊎◌, inl, inr, Bool, true, false, List, [], ◌∷◌, slice_get, length, Option, None, Some, Result, Ok, Err, OnOk, IfErr, refl, sym, subst, ap, ap₂, ◌∙◌, arith}
use Rattle.std.specs.List.{AllByRecursion}
use Rattle.press_apply.specs.declared.value.Value.{Value}
use Rattle.press_wire.specs.Blocks.{block_of}
use Rattle.press_acceptor.specs.Trace.{Fact, Legal, Chosen}
use Rattle.press_acceptor.proofs.Agreement.{one_chosen, chosen_later}
use Rattle.press_callbacks.specs.Kits.{KitView}
use Rattle.press_node.specs.declared.fault.NodeFault.{NodeFault}
use Rattle.press_node.specs.Faults.{stops}
use Rattle.press_node.specs.NodeEvent.{RunningNode}
use Rattle.press_world.specs.Adding.{Adds}
use Rattle.press_world.specs.Agreeing.{Agrees, UpAgrees}
use Rattle.press_world.specs.Entries.{IsWithin}
use Rattle.press_world.specs.Refusing.{step_refusal}
use Rattle.press_world.specs.Sound.{IsSound}
use Rattle.press_world.specs.Stepped.{cut_of, FailsBy, IsCut, Steps, with_cut}
use Rattle.press_world.specs.Stored.{StoredWorld, world_of, stored_run, stored_step}
use Rattle.press_world.specs.Whole.{AppliesChosen, HasApplied, HasValues}
use Rattle.press_world.specs.Worlds.{Place, World, run, step}
use Rattle.press_world.specs.declared.fault.WorldFault.{WorldFault}
use Rattle.press_world.specs.declared.fault.WorldFault.TheVariants.{NoSuchMessage, NoSuchNode, Node}
use Rattle.press_world.specs.declared.played.Played.{Played}
use Rattle.press_world.specs.declared.step.Cut.{Cut}
use Rattle.press_world.specs.declared.step.Step.{Step}
use Rattle.press_world.proofs.Growing.{step_adds}
use Rattle.press_world.proofs.Stored.{step_stored}
use Rattle.press_world.proofs.Votes.{Learns}
use Rattle.press_world.proofs.Worlds.{step_agrees}

pub sound_step : Learns → (n : ℕ) (s : StoredWorld) (x : Step) → n ≡ length s.places → IsSound s → IsSound (stored_step n s x)
sound_step law n s x e sound =
    let a = subst (λ m. Agrees m (world_of s)) (sym e) sound.agrees in
    let h = step_stored n s x a sound.within in
    let b = step_agrees law n (world_of s) x a in
    let after = subst (Agrees n) (sym h.0) b in
    record { agrees = subst (λ m. Agrees m (world_of (stored_step n s x))) (sym after.size) after; within = h.1 }

-- facts are only added
pub adds_step : (n : ℕ) (s : StoredWorld) (x : Step) → n ≡ length s.places → IsSound s → Adds (world_of s).trace (world_of (stored_step n s x)).trace
adds_step n s x e sound =
    let a = subst (λ m. Agrees m (world_of s)) (sym e) sound.agrees in
    let h = step_stored n s x a sound.within in
    subst (λ (w : World). Adds (world_of s).trace w.trace) (sym h.0) (step_adds n (world_of s) x)

-- after a list of steps
pub run_stored : Learns → (n : ℕ) (steps : List Step) (s : StoredWorld) → Agrees n (world_of s) → AllByRecursion (IsWithin (length s.sent)) s.entries → world_of (stored_run n steps s) ≡ run n steps (world_of s)
run_stored law n [] s a w = refl
run_stored law n (x ∷ steps) s a w =
    let h = step_stored n s x a w in
    run_stored law n steps (stored_step n s x) (subst (Agrees n) (sym h.0) (step_agrees law n (world_of s) x a)) h.1
    ∙ ap (run n steps) h.0

-- ---- an event

-- an event that was done, refused or ended keeps a world sound
pub turn_sound : Learns → {T : Type 0} (r : Result T NodeFault) (n : ℕ) (s t : StoredWorld) (cut : Option Cut) (does : Option Cut → StoredWorld) (o : Option WorldFault) → ((stop : Option Cut) → (x : Step) × (stored_step n s x ≡ does stop)) →
    OnOk r (t ≡ does cut) → IfErr r (λ fault. FailsBy s does o fault (stops fault) t) → n ≡ length s.places → IsSound s → IsSound t
turn_sound law {T} r n s t cut does o step e f k sound = go r e f
  where
    by : (stop : Option Cut) → t ≡ does stop → IsSound t
    by stop h = subst IsSound ((step stop).1 ∙ sym h) (sound_step law n s (step stop).0 k sound)

    ended : (t ≡ s) ⊎ IsCut does t → IsSound t
    ended (inl h) = subst IsSound (sym h) sound
    ended (inr h) = by (Some (cut_of h.0)) h.1

    refused : (b : Bool) (fault : NodeFault) → FailsBy s does o fault b t → IsSound t
    refused true fault h = ended h.2
    refused false fault h = subst IsSound (sym h.1) sound

    go : (q : Result T NodeFault) → OnOk q (t ≡ does cut) → IfErr q (λ fault. FailsBy s does o fault (stops fault) t) → IsSound t
    go (Ok y) a b = by cut a
    go (Err y) a b = refused (stops y) y b

-- ---- a step

-- what was chosen before is what is chosen after
pub once_by : (n : ℕ) (earlier trace : List Fact) → Legal n block_of trace → Adds earlier trace → (slot : ℕ) (v w : Value) → Chosen n earlier slot v → Chosen n trace slot w → v ≡ w
once_by n earlier trace l a slot v w x y = one_chosen n block_of trace l slot v w (subst (λ t. Chosen n t slot v) a.1 (chosen_later n a.0 earlier slot v x)) y

-- facts are only added, whatever comes of the step
pub steps_add : (kit : KitView) (n : ℕ) (s t : StoredWorld) (x : Step) (r : Result Played WorldFault) → n ≡ length s.places → IsSound s → Steps kit n s x t r → Adds (world_of s).trace (world_of t).trace
steps_add kit n s t x r k sound h = go r h
  where
    same : t ≡ s → Adds (world_of s).trace (world_of t).trace
    same h = subst (λ (u : StoredWorld). Adds (world_of s).trace (world_of u).trace) (sym h) ([], refl)

    by : (y : Step) → t ≡ stored_step n s y → Adds (world_of s).trace (world_of t).trace
    by y h = subst (λ (u : StoredWorld). Adds (world_of s).trace (world_of u).trace) (sym h) (adds_step n s y k sound)

    ended : (t ≡ s) ⊎ IsCut (λ stop. stored_step n s (with_cut x stop)) t → Adds (world_of s).trace (world_of t).trace
    ended (inl h) = same h
    ended (inr h) = by (with_cut x (Some (cut_of h.0))) h.1

    refused : (b : Bool) (fault : NodeFault) → FailsBy s (λ stop. stored_step n s (with_cut x stop)) (step_refusal s x) fault b t → Adds (world_of s).trace (world_of t).trace
    refused true fault h = ended h.2
    refused false fault h = same h.1

    go : (q : Result Played WorldFault) → Steps kit n s x t q → Adds (world_of s).trace (world_of t).trace
    go (Ok played) h = by x h.1
    go (Err NoSuchMessage) h = same h.1
    go (Err NoSuchNode) h = same h.1
    go (Err (Node fault)) h = refused (stops fault) fault h

-- ---- what a node has applied

pub applies_chosen : (s : StoredWorld) → IsSound s → AppliesChosen (length s.places) (world_of s).trace s.places
applies_chosen s sound index values h i v at = place (slice_get s.places index) refl h
  where
    up : (o : Option RunningNode) → UpAgrees (length s.places) (index + 1) o (world_of s).trace → HasValues o values → Chosen (length s.places) (world_of s).trace (i + 1) v
    up None a h = absurd h
    up (Some node) a h = a.applied i v (ap (λ vs. slice_get vs i) h ∙ at)

    place : (o : Option Place) → slice_get s.places index ≡ o → HasApplied o values → Chosen (length s.places) (world_of s).trace (i + 1) v
    place None e h = absurd h
    place (Some p) e h = up p.up (sound.agrees.nodes index p e) h

same_lists : {A : Type 0} (vs ws : List A) → length vs ≡ length ws → ((i : ℕ) (v w : A) → slice_get vs i ≡ Some v → slice_get ws i ≡ Some w → v ≡ w) → vs ≡ ws
same_lists [] [] e h = refl
same_lists [] (w ∷ ws) e h = cc
same_lists (v ∷ vs) [] e h = cc
same_lists (v ∷ vs) (w ∷ ws) e h = ap₂ (λ x xs. x ∷ xs) (h 0 v w refl refl) (same_lists vs ws (omega (arith, e)) (λ i x y p q. h (suc i) x y p q))

-- two nodes with as many values have the same
pub same_values : (s t : StoredWorld) → IsSound s → IsSound t → length t.places ≡ length s.places → Adds (world_of s).trace (world_of t).trace → (i j : ℕ) (vs ws : List Value) →
    HasApplied (slice_get s.places i) vs → HasApplied (slice_get t.places j) ws → length vs ≡ length ws → vs ≡ ws
same_values s t a b size adds i j vs ws h k e =
    same_lists vs ws e (λ index v w p q.
    once_by (length t.places) (world_of s).trace (world_of t).trace b.agrees.legal adds (index + 1) v w
    (subst (λ n. Chosen n (world_of s).trace (index + 1) v) (sym size) (applies_chosen s a i vs h index v p))
    (applies_chosen t b j ws k index w q))

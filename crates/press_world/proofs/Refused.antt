-- An event that its node refuses changes nothing, and no refusal stops a node.
use Rattle.std.proofs.Common.{ℕ, ◌≡◌, inl, false, Option, None, Some, option_map, slice_get, Result, Ok, Err, IfErr, refl, sym, subst, ap, ◌∙◌}
use Rattle.press_acceptor.specs.StoreMap.{StoreMap}
use Rattle.press_node.specs.declared.event.Event.{Event}
use Rattle.press_node.specs.declared.fault.NodeFault.{NodeFault}
use Rattle.press_node.specs.declared.fault.NodeFault.TheVariants.{Down, NoMemory}
use Rattle.press_node.specs.Faults.{stops}
use Rattle.press_node.specs.NodeEvent.{RunningNode}
use Rattle.press_node.specs.Refusals.{or_next, refusal, refusal_by_rounds, refusal_up}
use Rattle.press_world.specs.Happening.{Happens}
use Rattle.press_world.specs.Refusing.{event_refusal, refusal_where}
use Rattle.press_world.specs.Stepped.{FailsBy}
use Rattle.press_world.specs.Stored.{StoredWorld, stored_does}
use Rattle.press_world.specs.Worlds.{Place}
use Rattle.press_world.specs.declared.fault.WorldFault.{WorldFault}
use Rattle.press_world.specs.declared.fault.WorldFault.TheVariants.{Node}
use Rattle.press_world.specs.declared.step.Cut.{Cut}
use Rattle.press_world.specs.declared.step.Cut.TheVariants.{BeforeSave, AfterSave, AfterMessages}
use Rattle.press_world.proofs.Acting.{by_rounds, calm}

refusal_calm : (store : StoreMap) (node : RunningNode) (e : Event) (f : NodeFault) → refusal store (Some node) e ≡ Some f → stops f ≡ false
refusal_calm store node e f h = go (refusal_up node e) refl h
  where
    go : (r : Option NodeFault) → refusal_up node e ≡ r → or_next r (refusal_by_rounds store node e) ≡ Some f → stops f ≡ false
    go (Some g) is h = calm node e f (is ∙ h)
    go None is h = subst (λ x. stops x ≡ false) (sym (by_rounds store node e f h)) refl

where_calm : (store : StoreMap) (up : Option RunningNode) (e : Event) (cut : Option Cut) (f : NodeFault) → refusal_where store up e cut ≡ Some f → stops f ≡ false
where_calm store None e cut f h = let q : Down ≡ f = cc in subst (λ x. stops x ≡ false) q refl
where_calm store (Some node) e None f h = refusal_calm store node e f h
where_calm store (Some node) e (Some BeforeSave) f h = let q : None ≡ Some f = h in cc
where_calm store (Some node) e (Some AfterSave) f h = refusal_calm store node e f h
where_calm store (Some node) e (Some (AfterMessages count)) f h = refusal_calm store node e f h

-- no refusal is out of memory
pub never_wanting : (place : Place) (e : Event) (cut : Option Cut) (fault : NodeFault) → Some fault ≡ refusal_where place.store place.up e cut → ◌≡◌ {A = WorldFault} (Node fault) (Node NoMemory) → ⊥
never_wanting place e cut fault h m =
    let q : fault ≡ NoMemory = cc in
    let c : stops NoMemory ≡ false = subst (λ f. stops f ≡ false) q (where_calm place.store place.up e cut fault (sym h)) in
    cc

pub passes : (s : StoredWorld) (index : ℕ) (place : Place) (e : Event) (cut : Option Cut) → slice_get s.places index ≡ Some place → None ≡ refusal_where place.store place.up e cut → event_refusal (slice_get s.places index) e cut ≡ None
passes s index place e cut at h = ap (λ o. event_refusal o e cut) at ∙ ap (option_map Node) (sym h)

pub refused_happens : (n : ℕ) (s : StoredWorld) (which index : ℕ) (place : Place) (e : Event) (cut : Option Cut) (fault : NodeFault) → slice_get s.places index ≡ Some place → Some fault ≡ refusal_where place.store place.up e cut →
    Happens n s which index e cut s (Err (Node fault))
refused_happens n s which index place e cut fault at h =
    subst (λ b. FailsBy s (λ stop. stored_does n s which index (slice_get s.places index) e stop) (event_refusal (slice_get s.places index) e cut) fault b s) (sym (where_calm place.store place.up e cut fault (sym h))) (
      ap (λ o. event_refusal o e cut) at ∙ ap (option_map Node) (sym h),
      refl,
    )

-- out of memory before an event that isn't refused
pub wanting_happens : (n : ℕ) (s : StoredWorld) (which index : ℕ) (e : Event) (cut : Option Cut) → event_refusal (slice_get s.places index) e cut ≡ None → Happens n s which index e cut s (Err (Node NoMemory))
wanting_happens n s which index e cut h = (refl, h, inl refl)

pub when_wanting : {T P : Type 0} (r : Result T WorldFault) → P → IfErr r (λ fault. fault ≡ Node NoMemory → P)
when_wanting (Ok x) p = tt
when_wanting (Err fault) p = λ h. p

-- What is said of every cluster, from what holds of it and from what a step did.
use Rattle.std.proofs.Common.{ℕ, suc, ◌≡◌, List, [], ◌∷◌, length, slice_get, Option, None, Some, IfSome, option_and_then, Result, Ok, Err, refl, sym, subst, ap, ◌∙◌}
use Rattle.std.proofs.Math.Logic.{∥∥₁_elim, ∥∥₁_map, ∥∥₁_map₂}
use Rattle.std.specs.Coded.{Coded, coded_list, codes}
use base.Stored.{Coded-set}
use Rattle.press_apply.specs.declared.value.Value.{Value}
use Rattle.press_acceptor.specs.Trace.{Chosen}
use Rattle.press_callbacks.specs.Kits.{KitView}
use Rattle.press_page.specs.declared.reply.Reply.{Reply}
use Rattle.press_page.specs.declared.reply.Target.{Target}
use Rattle.press_node.specs.NodeEvent.{RunningNode}
use Rattle.press_world.specs.Adding.{Adds}
use Rattle.press_world.specs.Refusing.{place_numbered}
use Rattle.press_world.specs.Seats.{Static}
use Rattle.press_world.specs.Sound.{AreMembers, IsSound}
use Rattle.press_world.specs.Stepped.{Steps}
use Rattle.press_world.specs.Stored.{StoredWorld, world_of}
use Rattle.press_world.specs.Telling.{reply_at, reply_where}
use Rattle.press_world.specs.Whole.{AppliesChosen, ChoosesOnce, HasApplied, HaveKit, IsAnswered, IsPage}
use Rattle.press_world.specs.Worlds.{Place, index_of}
use Rattle.press_world.specs.declared.fault.WorldFault.{WorldFault}
use Rattle.press_world.specs.declared.played.Played.{Played}
use Rattle.press_world.specs.declared.step.Step.{Step}
use Rattle.press_world.specs.declared.step.Step.TheVariants.{Submit, Wake, Deliver, Restart, Get}
use Rattle.press_world.proofs.Playing.{applies_chosen, once_by, same_values, steps_add}

-- values are data, so what is true of them leaves a truncation
pub value_code : Coded Value
value_code = Prim.hlevel codes

have_kit : (kit : KitView) (xs : List Static) → ((i : ℕ) (x : Static) → slice_get xs i ≡ Some x → x.kit ≡ kit) → HaveKit kit xs
have_kit kit [] h = tt
have_kit kit (x ∷ xs) h = (h 0 x refl, have_kit kit xs (λ i y e. h (suc i) y e))

pub added_by : (n : ℕ) (s t : StoredWorld) (statics : List Static) (x : Step) (r : Result Played WorldFault) → n ≡ length s.places → ∥ IsSound s ∥₁ → ∥ ((kit : KitView) × AreMembers kit statics) ∥₁ →
    ((kit : KitView) → HaveKit kit statics → Steps kit n s x t r) → ∥ Adds (world_of s).trace (world_of t).trace ∥₁
added_by n s t statics x r size sound members steps =
    ∥∥₁_map₂ sound members (λ a m. steps_add m.0 n s t x r size a (steps m.0 (have_kit m.0 statics (λ i y e. (m.1.1 i y e).alike))))

pub chosen_of : (n : ℕ) (s : StoredWorld) → n ≡ length s.places → ∥ IsSound s ∥₁ → ∥ AppliesChosen n (world_of s).trace s.places ∥₁
chosen_of n s size sound = ∥∥₁_map sound (λ a. subst (λ k. AppliesChosen k (world_of s).trace s.places) (sym size) (applies_chosen s a))

pub once_of : (n : ℕ) (s t : StoredWorld) → n ≡ length t.places → ∥ IsSound t ∥₁ → ∥ Adds (world_of s).trace (world_of t).trace ∥₁ → ChoosesOnce n (world_of s).trace (world_of t).trace
once_of n s t size sound adds slot v w h k =
    ∥∥₁_elim (∥∥₁_map₂ sound adds (λ a b. once_by (length t.places) (world_of s).trace (world_of t).trace a.agrees.legal b slot v w (subst (λ m. Chosen m (world_of s).trace slot v) size h) (subst (λ m. Chosen m (world_of t).trace slot w) size k)))
    (Coded-set value_code v w) (λ e. e)

pub values_of : (s t : StoredWorld) → length t.places ≡ length s.places → ∥ IsSound s ∥₁ → ∥ IsSound t ∥₁ → ∥ Adds (world_of s).trace (world_of t).trace ∥₁ → (i j : ℕ) (vs ws : List Value) →
    HasApplied (slice_get s.places i) vs → HasApplied (slice_get t.places j) ws → length vs ≡ length ws → vs ≡ ws
values_of s t size a b adds i j vs ws h k e =
    ∥∥₁_elim a (Coded-set (coded_list value_code) vs ws) (λ x.
    ∥∥₁_elim (∥∥₁_map₂ b adds (λ y z. same_values s t x y size z i j vs ws h k e)) (Coded-set (coded_list value_code) vs ws) (λ e. e))

-- ---- the reply to a request for a page

page_at : (kit : KitView) (s : StoredWorld) (place : Option Place) (index : ℕ) (target : Target) (reply : Reply) → IsSound s → slice_get s.places index ≡ place → reply_at kit place target ≡ Some reply → IsPage (length s.places) (world_of s).trace place kit target reply
page_at kit s None index target reply sound at e = let q : None ≡ Some reply = e in cc
page_at kit s (Some place) index target reply sound at e = go place.up refl e
  where
    go : (o : Option RunningNode) → place.up ≡ o → reply_where kit o target ≡ Some reply → IsPage (length s.places) (world_of s).trace (Some place) kit target reply
    go None is f = let q : None ≡ Some reply = f in cc
    go (Some node) is f =
        let own : HasApplied (Some place) node.values = subst (λ o. HasApplied (Some (record { store = place.store; up = o })) node.values) (sym is) refl in
        record {
          values = node.values;
          own = own;
          chosen = λ i v e. applies_chosen s sound index node.values (subst (λ p. HasApplied p node.values) (sym at) own) i v e;
          page = cc;
        }

pub answered_by : (kit : KitView) (m n : ℕ) (s t : StoredWorld) (x : Step) (r : Result Played WorldFault) → n ≡ length t.places → ∥ IsSound t ∥₁ → Steps kit m s x t r → IsAnswered kit n (world_of t).trace t x r
answered_by kit m n s t (Submit number command cut) r size sound h = submitted r
  where
    submitted : (r : Result Played WorldFault) → IsAnswered kit n (world_of t).trace t (Submit number command cut) r
    submitted (Ok played) = tt
    submitted (Err fault) = tt
answered_by kit m n s t (Wake number cut) r size sound h = woken r
  where
    woken : (r : Result Played WorldFault) → IsAnswered kit n (world_of t).trace t (Wake number cut) r
    woken (Ok played) = tt
    woken (Err fault) = tt
answered_by kit m n s t (Deliver number cut) r size sound h = delivered r
  where
    delivered : (r : Result Played WorldFault) → IsAnswered kit n (world_of t).trace t (Deliver number cut) r
    delivered (Ok played) = tt
    delivered (Err fault) = tt
answered_by kit m n s t (Restart number) r size sound h = restarted r
  where
    restarted : (r : Result Played WorldFault) → IsAnswered kit n (world_of t).trace t (Restart number) r
    restarted (Ok played) = tt
    restarted (Err fault) = tt
answered_by kit m n s t (Get number target) (Err fault) size sound h = tt
answered_by kit m n s t (Get number target) (Ok played) size sound h = subst (λ o. IfSome o Page) (sym reply) (page (reply_at kit (place_numbered t number) target) refl)
  where
    Page : Reply → Type 0
    Page reply = ∥ IsPage n (world_of t).trace (place_numbered t number) kit target reply ∥₁

    reply : played.reply ≡ reply_at kit (place_numbered t number) target
    reply = ap (λ (p : Played). p.reply) h.2 ∙ ap (λ (u : StoredWorld). reply_at kit (place_numbered u number) target) (sym h.1)

    at : (o : Option ℕ) → index_of (length t.places) number ≡ o → (r : Reply) → reply_at kit (option_and_then (slice_get t.places) o) target ≡ Some r → ∥ IsPage n (world_of t).trace (option_and_then (slice_get t.places) o) kit target r ∥₁
    at None e r f = let q : None ≡ Some r = f in cc
    at (Some index) e r f =
        ∥∥₁_map sound (λ a. subst (λ k. IsPage k (world_of t).trace (slice_get t.places index) kit target r) (sym size) (page_at kit t (slice_get t.places index) index target r a refl f))

    page : (o : Option Reply) → reply_at kit (place_numbered t number) target ≡ o → IfSome o (λ reply. ∥ IsPage n (world_of t).trace (place_numbered t number) kit target reply ∥₁)
    page None e = tt
    page (Some r) e = at (index_of (length t.places) number) refl r e

-- Applying one value after another is settling, and the site stays what the applied values make.
use Rattle.std.proofs.Common.{ℕ, zero, suc, ◌+◌, ◌-◌, ◌<◌, ◌≤◌, ◌≡◌, ◌⊎◌, inl, inr, IsSome, Option, Some, None, Bool, true, false, List, [], ◌∷◌, ◌++◌, refl, sym, ap, ◌∙◌, arith, subst}
use Rattle.press_callbacks.specs.Kits.{KitView}
use Rattle.press_site.specs.SiteView.{SiteView}
use Rattle.press_apply.specs.declared.value.Value.{Value}
use Rattle.press_apply.specs.Apply.{applied, fold_values, site_after}
use Rattle.press_site.specs.Effects.{no_site}
use Rattle.press_learner.specs.Chosen.{chosen_next, if_any_chosen, with_chosen_applied}
use Rattle.press_learner.specs.Kept.{KeptVotes, IsWindow, after_next_slot}
use Rattle.press_node.specs.NodeEvent.{RunningNode, if_chosen, applies, with_all_applied, with_applied}
use Rattle.press_node.specs.Views.{Applies, IsUpFolded, running_of}
use Rattle.press_node.specs.declared.up.Up.{Up}

folded_more : (kit : KitView) (site : SiteView) (values : List Value) (value : Value) → fold_values kit site (values ++ value ∷ []) ≡ (applied kit (fold_values kit site values) value).0
folded_more kit site [] value = refl
folded_more kit site (v ∷ vs) value = folded_more kit (applied kit site v).0 vs value

applies_more : (most : ℕ) (kit : KitView) (old new : Up) → Applies kit old true new → applies (suc most) (running_of old) ≡ applies most (running_of new)
applies_more most kit old new h = ap (λ o. if_chosen o (λ value. applies most (with_applied (running_of old) value)) (running_of old)) h.1 ∙ ap (applies most) (sym h.2)

applies_end : (most : ℕ) (kit : KitView) (old new : Up) → Applies kit old false new → applies most (running_of old) ≡ running_of new
applies_end zero kit old new h = ap running_of (sym h.1)
applies_end (suc most) kit old new h = ap (λ o. if_chosen o (λ value. applies most (with_applied (running_of old) value)) (running_of old)) h.0 ∙ ap running_of (sym h.1)

pub stays_folded : (kit : KitView) (old new : Up) (more : Bool) → Applies kit old more new → IsUpFolded kit old → IsUpFolded kit new
stays_folded kit old new true h f =
    h.3 ∙ (ap (λ s. (applied kit s h.0).0) f ∙ (sym (folded_more kit no_site old.values.items h.0) ∙ ap (λ (r : RunningNode). site_after kit r.values) (sym h.2)))
stays_folded kit old new false h f = subst (IsUpFolded kit) (sym h.1) f

-- from here on the node settles as from the beginning
abbrev pub SettlesOn : ℕ → RunningNode → RunningNode → Type 0
SettlesOn i now first = (most : ℕ) → i + most ≡ 64 → applies most now ≡ with_all_applied first

pub settles_start : (first : RunningNode) → SettlesOn 0 first first
unfolding with_all_applied
settles_start first most e = let k : most ≡ 64 = omega arith in ap (λ m. applies m first) k

pub settles_more : (i : ℕ) (kit : KitView) (old new : Up) (first : RunningNode) → Applies kit old true new → SettlesOn i (running_of old) first → SettlesOn (i + 1) (running_of new) first
settles_more i kit old new first h s most e = sym (applies_more most kit old new h) ∙ s (suc most) (omega arith)

pub settles_stop : (i : ℕ) (kit : KitView) (old new : Up) (first : RunningNode) → i < 64 → Applies kit old false new → SettlesOn i (running_of old) first → running_of new ≡ with_all_applied first
settles_stop i kit old new first lt h s = sym (applies_end (64 - i) kit old new h) ∙ s (64 - i) (omega arith)

pub settles_out : (i : ℕ) (now first : RunningNode) → 64 ≤ i → i ≤ 64 → SettlesOn i now first → now ≡ with_all_applied first
settles_out i now first a b s = s 0 (omega arith)

-- where a value is chosen after so many turns, one was at the first
pub was_chosen : (i : ℕ) (old first : KeptVotes) → ((i ≡ 0) × (old ≡ first)) ⊎ IsSome (chosen_next first) → IsSome (chosen_next old) → IsSome (chosen_next first)
was_chosen i old first (inl (_, e)) some = subst (λ k. IsSome (chosen_next k)) e some
was_chosen i old first (inr at_first) some = at_first

learner_of_applies : (most : ℕ) (node : RunningNode) → (applies most node).learner ≡ with_chosen_applied most node.learner
unfolding with_chosen_applied
learner_of_applies zero node = refl
learner_of_applies (suc most) node = go (λ value. learner_of_applies most (with_applied node value)) (chosen_next node.learner)
  where
    go : ((value : Value) → (applies most (with_applied node value)).learner ≡ with_chosen_applied most (after_next_slot node.learner)) → (o : Option Value) → (if_chosen o (λ value. applies most (with_applied node value)) node).learner ≡ if_any_chosen o (with_chosen_applied most (after_next_slot node.learner)) node.learner
    go later None = refl
    go later (Some value) = later value

-- then nothing is left to apply
pub settled_has_none : (dry : (k : KeptVotes) → IsWindow k → chosen_next (with_chosen_applied 64 k) ≡ None) (node : RunningNode) → IsWindow node.learner → chosen_next (with_all_applied node).learner ≡ None
unfolding with_all_applied
settled_has_none dry node window = ap chosen_next (learner_of_applies 64 node) ∙ dry node.learner window

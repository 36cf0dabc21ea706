-- Once the chosen values of 64 slots are applied, none is chosen.
use Rattle.std.proofs.Common.{ℕ, zero, suc, ◌+◌, ◌<◌, ◌≤◌, ◌≡◌, Bool, true, false, cond, nat_lt, IsTrue, IsSome, is_some, Option, List, [], ◌∷◌, Some, None, refl, sym, ap, ◌∙◌, arith}
use Rattle.std.proofs.lemmas.Bool.{and_parts, leb-true, ltb-true, true≢false}
use Rattle.std.specs.FinMap.{get-empty}
use Rattle.std.specs.List.{range_with_len}
use Rattle.press_apply.specs.declared.value.Value.{Value}
use Rattle.press_wire.specs.declared.vote.Vote.{Vote}
use Rattle.press_learner.specs.Chosen.{chosen_next, first_majority_value, if_any_chosen, or_else, with_chosen_applied, majority_value}
use Rattle.press_learner.specs.Kept.{KeptVotes, IsWindow, after_next_slot, is_in_window, new_learner, next_slot, place_cmp, vote_at}
use Rattle.press_learner.proofs.Places.{get_retained}

-- every kept vote is for a slot behind the applied ones, and for none after this one
abbrev IsUpTo : ℕ → KeptVotes → Type 0
IsUpTo top k = (slot member : ℕ) → IsSome (vote_at k slot member) → (k.applied < slot) × (slot ≤ top)

pub in_window : (a slot : ℕ) → IsTrue (is_in_window a slot) → (a < slot) × (slot ≤ a + 64)
unfolding is_in_window
in_window a slot i = let p = and_parts (nat_lt a slot) _ i in (ltb-true a slot p.0, leb-true slot (a + 64) p.1)

window_up_to : (k : KeptVotes) → IsWindow k → IsUpTo (k.applied + 64) k
window_up_to k w s m h = in_window k.applied s (w s m h).0

advanced_up_to : (top : ℕ) (k : KeptVotes) → IsUpTo top k → IsUpTo top (after_next_slot k)
advanced_up_to top k u s m h = go (nat_lt (k.applied + 1) s) refl (ap is_some (sym (get_retained k.votes (λ (p : ℕ × ℕ). nat_lt (k.applied + 1) p.0) (s, m))) ∙ h)
  where
    go : (t : Bool) → nat_lt (k.applied + 1) s ≡ t → IsSome (cond t (vote_at k s m) None) → (k.applied + 1 < s) × (s ≤ top)
    go true e h = (ltb-true (k.applied + 1) s e, (u s m h).1)
    go false e h = absurd (true≢false (sym h))

none_won : (k : KeptVotes) (slot : ℕ) → ((member : ℕ) → vote_at k slot member ≡ None) → (members : List ℕ) → first_majority_value k slot members ≡ None
none_won k slot none [] = refl
none_won k slot none (m ∷ ms) = ap (λ v. or_else (majority_value k slot v) (first_majority_value k slot ms)) (none m) ∙ none_won k slot none ms

none_chosen : (k : KeptVotes) → ((member : ℕ) → vote_at k (next_slot k) member ≡ None) → chosen_next k ≡ None
unfolding chosen_next
none_chosen k none = none_won k (next_slot k) none (range_with_len 1 k.members)

no_vote : (top : ℕ) (k : KeptVotes) → IsUpTo top k → top ≤ k.applied → (member : ℕ) → vote_at k (next_slot k) member ≡ None
no_vote top k u le member = go (vote_at k (next_slot k) member) refl
  where
    go : (v : Option Vote) → vote_at k (next_slot k) member ≡ v → v ≡ None
    go None e = refl
    go (Some vote) e = let p = u (next_slot k) member (ap is_some e) in absurd (omega (arith, p.1, le))

runs_dry : (n top : ℕ) (k : KeptVotes) → IsUpTo top k → top ≤ k.applied + n → chosen_next (with_chosen_applied n k) ≡ None
unfolding with_chosen_applied
runs_dry zero top k u le = none_chosen k (no_vote top k u (omega (arith, le)))
runs_dry (suc n) top k u le = go (runs_dry n top (after_next_slot k) (advanced_up_to top k u) (omega (arith, le))) (chosen_next k) refl
  where
    go : chosen_next (with_chosen_applied n (after_next_slot k)) ≡ None → (o : Option Value) → chosen_next k ≡ o → chosen_next (if_any_chosen (chosen_next k) (with_chosen_applied n (after_next_slot k)) k) ≡ None
    go dry None e = ap (λ o. chosen_next (if_any_chosen o (with_chosen_applied n (after_next_slot k)) k)) e ∙ e
    go dry (Some value) e = ap (λ o. chosen_next (if_any_chosen o (with_chosen_applied n (after_next_slot k)) k)) e ∙ dry

pub none_at_first : (members : ℕ) → chosen_next (new_learner members) ≡ None
none_at_first members = none_chosen (new_learner members) (λ member. get-empty place_cmp (1, member))

pub dry_after_64 : (k : KeptVotes) → IsWindow k → chosen_next (with_chosen_applied 64 k) ≡ None
dry_after_64 k w = runs_dry 64 (k.applied + 64) k (window_up_to k w) (omega arith)

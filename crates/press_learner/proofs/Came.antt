-- Each kept vote came.
use Rattle.std.proofs.Common.{ℕ, ◌+◌, ◌≡◌, ◌⊎◌, inl, inr, Bool, true, false, cond, ◌&&◌, nat_lt, Some, None, refl, sym, ap, ◌∙◌}
use Rattle.std.proofs.lemmas.Bool.{cond_both}
use Rattle.std.specs.FinMap.{get-empty, get-insert}
use Rattle.std.specs.Ordering.{eq_by_cmp}
use Rattle.press_wire.specs.declared.vote.Vote.{Vote}
use Rattle.press_learner.specs.Kept.{KeptVotes, AddsNone, AddsOnly, IsFrom, after_next_slot, is_in_window, is_news, kept_with, new_learner, place_cmp, vote_at, with_vote}
use Rattle.press_learner.proofs.Places.{get_retained, places_total, same_place}

pub none_at_start : (n slot member : ℕ) → vote_at (new_learner n) slot member ≡ None
none_at_start n slot member = get-empty {X = Vote} place_cmp (slot, member)

kept_came : (k : KeptVotes) (from slot : ℕ) (vote : Vote) → AddsOnly from slot vote k (kept_with k from slot vote)
kept_came k from slot vote s m v h = go (eq_by_cmp place_cmp (s, m) (slot, from)) refl (sym (get-insert places_total k.votes (slot, from) vote (s, m)) ∙ h)
  where
    go : (t : Bool) → eq_by_cmp place_cmp (s, m) (slot, from) ≡ t → cond t (Some vote) (vote_at k s m) ≡ Some v → (vote_at k s m ≡ Some v) ⊎ IsFrom from slot vote m s v
    go true e f =
        let p : ◌≡◌ {A = ℕ × ℕ} (s, m) (slot, from) = same_place (s, m) (slot, from) e in
        inr (ap (λ (q : ℕ × ℕ). q.1) p, ap (λ (q : ℕ × ℕ). q.0) p, cc)
    go false e f = inl f

pub vote_came : (k : KeptVotes) (from slot : ℕ) (vote : Vote) → AddsOnly from slot vote k (with_vote k from slot vote)
vote_came k from slot vote =
    cond_both (is_in_window k.applied slot && is_news (vote_at k slot from) vote.ballot) (kept_with k from slot vote) k (AddsOnly from slot vote k)
    (λ e. kept_came k from slot vote)
    (λ e s m v h. inl h)

pub none_came : (k : KeptVotes) → AddsNone k (after_next_slot k)
none_came k s m v h = go (nat_lt (k.applied + 1) s) (sym (get_retained k.votes (λ (p : ℕ × ℕ). nat_lt (k.applied + 1) p.0) (s, m)) ∙ h)
  where
    go : (t : Bool) → cond t (vote_at k s m) None ≡ Some v → vote_at k s m ≡ Some v
    go true f = f
    go false f = let x : None ≡ Some v = f in cc

-- Kept votes stay in the window.
use Rattle.std.proofs.Common.{ℕ, ◌+◌, ◌<◌, ◌≡◌, Bool, true, false, cond, ◌&&◌, ◌||◌, inl, inr, nat_lt, nat_le, IsTrue, IsSome, is_some, List, [], ◌∷◌, Some, None, refl, sym, ap, subst, ◌∙◌, arith}
use Rattle.std.proofs.lemmas.Bool.{and_from, and_parts, leb-true, le-leb, ltb-true, lt-ltb, or_cases, or_left, or_right, true≢false}
use Rattle.std.specs.Cmp.{eq_by_cmp_equiv}
use Rattle.std.specs.FinMap.{keys, get-empty, get-insert, contains_key-keys}
use Rattle.std.specs.List.{list_any}
use Rattle.std.specs.Ordering.{eq_by_cmp}
use Rattle.press_wire.specs.declared.vote.Vote.{Vote}
use Rattle.press_learner.specs.Chosen.{has_gap}
use Rattle.press_learner.specs.Kept.{KeptVotes, IsWindow, IsInPlace, is_in_window, kept_with, after_next_slot, new_learner, place_cmp, vote_at}
use Rattle.press_learner.proofs.Places.{places_total, same_place, get_retained}

pub new_window : (n : ℕ) → IsWindow (new_learner n)
new_window n slot member h = absurd (true≢false (sym (ap is_some (sym (get-empty place_cmp (slot, member))) ∙ h)))

pub within_window : (a slot : ℕ) → (nat_lt a slot && nat_le slot (a + 64)) ≡ is_in_window a slot
unfolding is_in_window
within_window a slot = refl

later : (a slot : ℕ) → IsTrue (is_in_window a slot) → nat_lt (a + 1) slot ≡ true → IsTrue (is_in_window (a + 1) slot)
unfolding is_in_window
later a slot i e = and_from _ _ e (le-leb slot (a + 1 + 64) (omega (arith, leb-true slot (a + 64) (and_parts (nat_lt a slot) _ i).1)))

pub kept_window : (k : KeptVotes) (from slot : ℕ) (vote : Vote) → IsWindow k → IsInPlace k slot from → IsWindow (kept_with k from slot vote)
kept_window k from slot vote w i s m h = go (eq_by_cmp place_cmp (s, m) (slot, from)) refl (ap is_some (sym (get-insert places_total k.votes (slot, from) vote (s, m))) ∙ h)
  where
    go : (t : Bool) → eq_by_cmp place_cmp (s, m) (slot, from) ≡ t → IsSome (cond t (Some vote) (vote_at k s m)) → IsInPlace k s m
    go true e h = subst (λ (p : ℕ × ℕ). IsInPlace k p.0 p.1) (sym (same_place (s, m) (slot, from) e)) i
    go false e h = w s m h

pub advanced_window : (k : KeptVotes) → IsWindow k → IsWindow (after_next_slot k)
advanced_window k w s m h = go (nat_lt (k.applied + 1) s) refl (ap is_some (sym (get_retained k.votes (λ (p : ℕ × ℕ). nat_lt (k.applied + 1) p.0) (s, m))) ∙ h)
  where
    go : (t : Bool) → nat_lt (k.applied + 1) s ≡ t → IsSome (cond t (vote_at k s m) None) → IsInPlace (after_next_slot k) s m
    go true e h = let i = w s m h in (later k.applied s i.0 e, i.1, i.2, i.3)
    go false e h = absurd (true≢false (sym h))

-- an element that passes is among the elements
found : (p : ℕ × ℕ → Bool) (xs : List (ℕ × ℕ)) → list_any p xs ≡ true → (x : ℕ × ℕ) × (p x ≡ true) × (list_any (eq_by_cmp place_cmp x) xs ≡ true)
found p [] h = absurd (true≢false (sym h))
found p (x ∷ xs) h = go (p x) refl h (found p xs)
  where
    go : (t : Bool) → p x ≡ t → (t || list_any p xs) ≡ true → (list_any p xs ≡ true → (y : ℕ × ℕ) × (p y ≡ true) × (list_any (eq_by_cmp place_cmp y) xs ≡ true)) → (y : ℕ × ℕ) × (p y ≡ true) × (list_any (eq_by_cmp place_cmp y) (x ∷ xs) ≡ true)
    go true e h later = (x, e, or_left (eq_by_cmp place_cmp x x) _ ((eq_by_cmp_equiv places_total).refl x))
    go false e h later = let r = later h in (r.0, r.1, or_right (eq_by_cmp place_cmp r.0 x) _ r.2)

-- and one that is among them passes
passes : (p : ℕ × ℕ → Bool) (q : ℕ × ℕ) (xs : List (ℕ × ℕ)) → p q ≡ true → list_any (eq_by_cmp place_cmp q) xs ≡ true → list_any p xs ≡ true
passes p q [] h e = e
passes p q (x ∷ xs) h e = elim (or_cases (eq_by_cmp place_cmp q x) (list_any (eq_by_cmp place_cmp q) xs) e) [
  | inl same ↦ or_left (p x) (list_any p xs) (subst (λ (y : ℕ × ℕ). p y ≡ true) (same_place q x same) h)
  | inr later ↦ or_right (p x) (list_any p xs) (passes p q xs h later)
]

-- a gap is a kept vote for a slot after the next one
pub gap_vote : (k : KeptVotes) → has_gap k ≡ true → (slot member : ℕ) × (k.applied + 1 < slot) × IsSome (vote_at k slot member)
unfolding has_gap
gap_vote k h =
    let r = found (λ (p : ℕ × ℕ). nat_lt (k.applied + 1) p.0) (keys k.votes) h in
    (r.0.0, r.0.1, ltb-true (k.applied + 1) r.0.0 r.1, contains_key-keys k.votes r.0 ∙ r.2)

pub gap_of_vote : (k : KeptVotes) (slot member : ℕ) → k.applied + 1 < slot → IsSome (vote_at k slot member) → has_gap k ≡ true
unfolding has_gap
gap_of_vote k slot member later some =
    passes (λ (p : ℕ × ℕ). nat_lt (k.applied + 1) p.0) (slot, member) (keys k.votes) (lt-ltb (k.applied + 1) slot later)
    (sym (contains_key-keys k.votes (slot, member)) ∙ some)

pub gap_before_last : (k : KeptVotes) → IsWindow k → has_gap k ≡ true → k.applied < 999999
gap_before_last k w h = let r = gap_vote k h in omega (arith, r.2, (w r.0 r.1 r.3).1)

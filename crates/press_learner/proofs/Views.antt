-- What a learner's fields are seen as, after each change.
use Rattle.std.proofs.Common.{ℕ, ◌+◌, ◌-◌, ◌*◌, ◌/◌, ◌%◌, ◌<◌, ◌≡◌, inl, inr, Bool, true, false, cond, IsSome, is_some, List, [], length, get_or, set, Option, Some, None, Result, Ok, Err, OnErr, refl, sym, ap, subst, ◌∙◌, arith}
use Rattle.std.specs.Bool.{MatchBool}
use Rattle.std.proofs.lemmas.Bool.{cases_lt, cond-true, false_from_ne_true, true≢false}
use Rattle.std.proofs.lemmas.List.{get_or_past, length-set}
use Rattle.press_wire.specs.declared.vote.Vote.{Vote}
use Rattle.press_learner.specs.Chosen.{chosen_next, has_gap}
use Rattle.press_learner.specs.InRing.{HasNoOther, HasOther, HasRoom, IsAlike, without_slot_votes, has_place, kept_in, place_of, vote_in_ring}
use Rattle.press_learner.specs.Kept.{KeptVotes, IsWindow, IsInPlace, after_next_slot, kept_with, new_learner, vote_at}
use Rattle.press_learner.proofs.Rings.{IsPlace, advanced_in, alike_in, length_emptied, none_in, place_from, place_parts, put_in, votes_at, within_room}
use Rattle.press_learner.proofs.Settled.{in_window, none_at_first}
use Rattle.press_learner.proofs.Window.{advanced_window, gap_of_vote, gap_vote, kept_window, new_window}

with_no_room : (n : ℕ) → kept_in n 0 [] ≡ new_learner n
with_no_room n = ap (λ votes. record { members = n; votes = votes; applied = 0 }) (none_in n 0)

module _ (n : ℕ) (ring : List (Option Vote)) (none : ring ≡ []) where
  pub new_seen : kept_in n 0 ring ≡ new_learner n
  new_seen = ap (λ (xs : List (Option Vote)). kept_in n 0 xs) none ∙ with_no_room n

  pub new_seen_window : IsWindow (kept_in n 0 ring)
  new_seen_window = subst IsWindow (sym new_seen) (new_window n)

  pub none_chosen_yet : chosen_next (kept_in n 0 ring) ≡ None
  none_chosen_yet = ap chosen_next new_seen ∙ none_at_first n

module _ (n a : ℕ) (ring : List (Option Vote)) (k : KeptVotes) (is : kept_in n a ring ≡ k) where
  same_members : n ≡ k.members
  same_members = ap (λ (x : KeptVotes). x.members) is

  same_applied : a ≡ k.applied
  same_applied = ap (λ (x : KeptVotes). x.applied) is

  -- the member's kept vote, where there is a place for it
  seen_at : (slot member : ℕ) → vote_at k slot member ≡ cond (has_place n a slot member) (vote_in_ring ring slot member) None
  seen_at slot member = ap (λ (x : KeptVotes). vote_at x slot member) (sym is) ∙ votes_at n a ring slot member

  pub vote_seen : (xs : List (Option Vote)) → xs ≡ ring → (slot member : ℕ) (b : Bool) → b ≡ has_place k.members k.applied slot member → b ≡ true → vote_in_ring xs slot member ≡ vote_at k slot member
  vote_seen xs same slot member b e t = ap (λ (ys : List (Option Vote)). vote_in_ring ys slot member) same ∙ sym (seen_at slot member ∙ cond-true _ _ _ (ap (λ x. has_place x a slot member) same_members ∙ ap (λ x. has_place k.members x slot member) same_applied ∙ sym e ∙ t))

  pub none_seen : (slot member : ℕ) (b : Bool) → b ≡ has_place k.members k.applied slot member → b ≡ false → None ≡ vote_at k slot member
  none_seen slot member b e f = sym (seen_at slot member ∙ ap (λ t. cond t (vote_in_ring ring slot member) None) (ap (λ x. has_place x a slot member) same_members ∙ ap (λ x. has_place k.members x slot member) same_applied ∙ sym e ∙ f))

  -- where there is no room yet, no vote is kept
  pub none_kept : (slot member : ℕ) → ring ≡ [] → vote_at k slot member ≡ None
  none_kept slot member none = seen_at slot member ∙ ap (λ (xs : List (Option Vote)). cond (has_place n a slot member) (vote_in_ring xs slot member) None) none ∙ go (has_place n a slot member)
    where
      go : (t : Bool) → cond t (vote_in_ring [] slot member) None ≡ None
      go true = refl
      go false = refl

  -- ---- a vote is put in

  module _ (more : List (Option Vote)) (h : IsAlike ring more) (l : length more ≡ 64 * n) (slot from : ℕ) (p : IsInPlace k slot from) where
    is_place : IsPlace n a slot from
    is_place =
        let w = in_window k.applied slot p.0 in
        (omega (arith, w.0, same_applied), omega (arith, w.1, same_applied), p.2, omega (arith, p.3, same_members))

    pub put_within : place_of slot from < length more
    put_within = within_room n a slot from (length more) is_place l

    module _ (vote : Vote) (full : List (Option Vote)) (is_set : full ≡ set more (place_of slot from) (Some vote)) where
      pub put_seen : kept_in n a full ≡ kept_with k from slot vote
      put_seen =
          ap (λ (xs : List (Option Vote)). kept_in n a xs) is_set
          ∙ ap (λ votes. record { members = n; votes = votes; applied = a }) (put_in n a more slot from vote is_place l)
          ∙ ap (λ votes. kept_with (record { members = n; votes = votes; applied = a }) from slot vote) (alike_in n a ring more h)
          ∙ ap (λ (x : KeptVotes). kept_with x from slot vote) is

      pub put_window : IsWindow k → IsWindow (kept_in n a full)
      put_window w = subst IsWindow (sym put_seen) (kept_window k from slot vote w p)

      pub put_room : HasRoom n full
      put_room some = ap length is_set ∙ length-set more (place_of slot from) (Some vote) ∙ l

  -- ---- a slot more is applied

  module _ (more : List (Option Vote)) (h : more ≡ without_slot_votes n (a + 1) ring) where
    pub advanced_seen : kept_in n (a + 1) more ≡ after_next_slot k
    advanced_seen =
        ap (λ (xs : List (Option Vote)). kept_in n (a + 1) xs) h
        ∙ ap (λ votes. record { members = n; votes = votes; applied = a + 1 }) (advanced_in n a ring)
        ∙ ap after_next_slot is

    pub window_after : IsWindow k → IsWindow (kept_in n (a + 1) more)
    window_after w = subst IsWindow (sym advanced_seen) (advanced_window k w)

    pub room_after : HasRoom n ring → HasRoom n more
    room_after room some =
        let l = ap length h ∙ length_emptied n (a + 1) ring in
        l ∙ room (omega (arith, some, l))

  -- ---- a gap

  slot_at : ℕ → ℕ
  slot_at i = a + 1 + (i % 64 + 64 - (a + 1) % 64) % 64

  other_is_gap : HasRoom n ring → HasOther ring (a + 1) → has_gap k ≡ true
  unfolding slot_at place_of
  other_is_gap room (i, other, some) =
      gap_of_vote k (slot_at i) (1 + i / 64) (omega (arith, same_applied, other)) (ap is_some (seen_at (slot_at i) (1 + i / 64) ∙ cond-true _ _ _ (place_from n a (slot_at i) (1 + i / 64) (omega arith, omega arith, omega arith, omega (arith, within, room))) ∙ ap (λ j. get_or ring j None) own) ∙ some)
    where
      within : i < length ring
      within = elim (cases_lt i (length ring)) [
        | inl lt ↦ lt
        | inr le ↦ absurd (true≢false (sym some ∙ ap is_some (get_or_past ring i None le)))
      ]

      own : place_of (slot_at i) (1 + i / 64) ≡ i
      own = omega arith

  no_other_no_gap : HasNoOther ring (a + 1) → has_gap k ≡ false
  unfolding place_of
  no_other_no_gap none = false_from_ne_true (has_gap k) (λ h.
      let v = gap_vote k h in
      go v.0 v.1 v.2 (has_place n a v.0 v.1) refl (ap is_some (sym (seen_at v.0 v.1)) ∙ v.3))
    where
      go : (s m : ℕ) → k.applied + 1 < s → (t : Bool) → has_place n a s m ≡ t → IsSome (cond t (vote_in_ring ring s m) None) → ⊥
      go s m later true e some =
          let p = place_parts n a s m e in
          true≢false (sym some ∙ ap is_some (none (place_of s m) (λ same. omega (arith, later, same_applied, p.1))))
      go s m later false e some = true≢false (sym some)

  gap_told : HasRoom n ring → (b : Bool) → MatchBool b (HasOther ring (a + 1)) (HasNoOther ring (a + 1)) → b ≡ has_gap k
  gap_told room true other = sym (other_is_gap room other)
  gap_told room false none = sym (no_other_no_gap none)

  pub gap_seen : HasRoom n ring → (xs : List (Option Vote)) → xs ≡ ring → (b : Bool) → MatchBool b (HasOther xs (a + 1)) (HasNoOther xs (a + 1)) → b ≡ has_gap k
  gap_seen room xs same b told = gap_told room b (subst (λ (ys : List (Option Vote)). MatchBool b (HasOther ys (a + 1)) (HasNoOther ys (a + 1))) same told)

pub on_err : {T E P : Type 0} (r : Result T E) → P → OnErr r P
on_err (Ok x) p = tt
on_err (Err e) p = p

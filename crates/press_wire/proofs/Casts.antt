-- The vote for a slot, cast again in another ballot.
use Rattle.std.proofs.Common.{ℕ, suc, ◌+◌, ◌<◌, ◌≤◌, ◌≡◌, Bool, true, false, not, cond, nat_eq, nat_le, List, [], ◌∷◌, length, None, Some, refl, sym, ap, ◌∙◌, arith}
use Rattle.std.proofs.lemmas.Bool.{eqb-true, eqb-false, leb-true, leb-false}
use Rattle.std.specs.List.{position, position_or_len}
use Rattle.std.specs.Prelude.{get_or, slice_set}
use Rattle.press_wire.specs.Votes.{cast_again, vote_in, put, IsWithin}
use Rattle.press_wire.specs.declared.ballot.Ballot.{Ballot}
use Rattle.press_wire.specs.declared.vote.Vote.{Vote}
use Rattle.press_wire.specs.declared.votes.SlotVote.{SlotVote}
use Rattle.press_wire.proofs.Collected.{none_before}
use Rattle.press_wire.proofs.Puts.{none_lt, some_lt}

-- ---- by what `position` gives

module _ (slot : ℕ) (ballot : Ballot) where
  abbrev again : SlotVote → SlotVote
  again v = record { slot = v.slot; vote = record { ballot = ballot; value = v.vote.value } }

  abbrev of_slot : SlotVote → Bool
  of_slot v = nat_eq v.slot slot

  abbrev spot : List SlotVote → ℕ
  spot votes = position_or_len of_slot votes

  none : (votes : List SlotVote) → length votes ≤ spot votes → votes ≡ cast_again slot ballot votes
  none [] e = refl
  none (v ∷ votes) e = go (nat_eq v.slot slot) e (none votes)
    where
      go : (b : Bool) → suc (length votes) ≤ cond (not b) (1 + spot votes) 0 → (length votes ≤ spot votes → votes ≡ cast_again slot ballot votes) → v ∷ votes ≡ cond b (again v ∷ votes) (v ∷ cast_again slot ballot votes)
      go true e ih = absurd (omega (arith, e))
      go false e ih = ap (λ xs. v ∷ xs) (ih (omega (arith, e)))

  some : (votes : List SlotVote) (d : SlotVote) → spot votes < length votes → slice_set votes (spot votes) (again (get_or votes (spot votes) d)) ≡ cast_again slot ballot votes
  some [] d e = absurd (omega (arith, e))
  some (v ∷ votes) d e = go (nat_eq v.slot slot) e (some votes d)
    where
      go : (b : Bool) → cond (not b) (1 + spot votes) 0 < suc (length votes) → (spot votes < length votes → slice_set votes (spot votes) (again (get_or votes (spot votes) d)) ≡ cast_again slot ballot votes) → slice_set (v ∷ votes) (cond (not b) (1 + spot votes) 0) (again (get_or (v ∷ votes) (cond (not b) (1 + spot votes) 0) d)) ≡ cond b (again v ∷ votes) (v ∷ cast_again slot ballot votes)
      go true e ih = refl
      go false e ih =
          let k : 1 + spot votes ≡ suc (spot votes) = omega arith in
          ap (λ m. slice_set (v ∷ votes) m (again (get_or (v ∷ votes) m d))) k ∙ ap (λ xs. v ∷ xs) (ih (omega (arith, e)))

  pub cast_none : (votes old : List SlotVote) → votes ≡ old → position of_slot votes ≡ None → old ≡ cast_again slot ballot old
  cast_none votes old v e = sym v ∙ none votes (none_lt (spot votes) (length votes) e) ∙ ap (cast_again slot ballot) v

  pub cast_some : (votes old : List SlotVote) (i : ℕ) (d x : SlotVote) → votes ≡ old → position of_slot votes ≡ Some i → x ≡ get_or votes i d → slice_set votes i (again x) ≡ cast_again slot ballot old
  cast_some votes old i d x v e g =
      let p = some_lt (spot votes) (length votes) i e in
      ap (λ (y : SlotVote). slice_set votes i (again y)) g ∙ ap (λ j. slice_set votes j (again (get_or votes j d))) (sym p.1) ∙ some votes d p.0 ∙ ap (cast_again slot ballot) v

-- ---- to cast a vote again is to put one for its value

module _ (slot : ℕ) (vote : Vote) where
  abbrev one : SlotVote
  one = record { slot = slot; vote = vote }

  pub cast_put : (votes : List SlotVote) (first last : ℕ) → IsWithin first last votes → (cast : Vote) → vote_in votes slot ≡ Some cast → cast.value ≡ vote.value → cast_again slot vote.ballot votes ≡ put slot vote votes
  cast_put [] first last w cast e f = cc
  cast_put (v ∷ votes) first last w cast e f = go (nat_eq v.slot slot) refl (nat_le slot v.slot) refl e (λ k. cast_put votes (v.slot + 1) last w.2 cast k f)
    where
      here : v.slot ≡ slot → v.vote.value ≡ vote.value → again slot vote.ballot v ≡ one
      here s x = λ j. record { slot = s j; vote = record { ballot = vote.ballot; value = x j } }

      past : slot < v.slot → vote_in votes slot ≡ Some cast → ⊥
      past h k = let x : None ≡ Some cast = sym (none_before votes (v.slot + 1) last slot (omega (arith, h)) w.2) ∙ k in cc

      go : (a : Bool) → nat_eq v.slot slot ≡ a → (b : Bool) → nat_le slot v.slot ≡ b → cond a (Some v.vote) (vote_in votes slot) ≡ Some cast → (vote_in votes slot ≡ Some cast → cast_again slot vote.ballot votes ≡ put slot vote votes) → cond a (again slot vote.ballot v ∷ votes) (v ∷ cast_again slot vote.ballot votes) ≡ cond b (cond a (one ∷ votes) (one ∷ v ∷ votes)) (v ∷ put slot vote votes)
      go true g true h k ih = let x : v.vote ≡ cast = cc in ap (λ y. y ∷ votes) (here (eqb-true v.slot slot g) (ap (λ (y : Vote). y.value) x ∙ f))
      go true g false h k ih = absurd (omega (arith, eqb-true v.slot slot g, leb-false slot v.slot h))
      go false g true h k ih = absurd (past (omega (arith, eqb-false v.slot slot g, leb-true slot v.slot h)) k)
      go false g false h k ih = ap (λ xs. v ∷ xs) (ih k)

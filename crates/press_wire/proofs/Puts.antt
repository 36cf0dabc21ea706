-- A vote is put among others.
use Rattle.std.proofs.Common.{ℕ, suc, ◌+◌, ◌<◌, ◌≤◌, ◌≡◌, Bool, true, false, not, cond, nat_eq, nat_le, nat_lt, List, [], ◌∷◌, ◌++◌, length, None, Some, refl, sym, ap, subst, ◌∙◌, arith}
use Rattle.std.proofs.lemmas.Bool.{eqb-true, eqb-false, leb-true, leb-false, ltb-true, ltb-false}
use Rattle.std.specs.List.{position, position_or_len, insert}
use Rattle.std.specs.Prelude.{get_or, slice_set}
use Rattle.press_wire.specs.Votes.{vote_in, put, IsWithin}
use Rattle.press_wire.specs.declared.vote.Vote.{Vote}
use Rattle.press_wire.specs.declared.votes.SlotVote.{SlotVote}

-- ---- a place that `position` gives

pub none_lt : (i n : ℕ) → cond (nat_lt i n) (Some i) None ≡ None → n ≤ i
none_lt i n e = go (nat_lt i n) refl e
  where
    go : (b : Bool) → nat_lt i n ≡ b → cond b (Some i) None ≡ None → n ≤ i
    go true k e = let x : Some i ≡ None = e in cc
    go false k e = ltb-false i n k

pub some_lt : (i n j : ℕ) → cond (nat_lt i n) (Some i) None ≡ Some j → (i < n) × (i ≡ j)
some_lt i n j e = go (nat_lt i n) refl e
  where
    go : (b : Bool) → nat_lt i n ≡ b → cond b (Some i) None ≡ Some j → (i < n) × (i ≡ j)
    go true k e = let x : Some i ≡ Some j = e in (ltb-true i n k, cc)
    go false k e = let x : None ≡ Some j = e in cc

-- ---- what is put

module _ (slot : ℕ) (vote : Vote) where
  abbrev one : SlotVote
  one = record { slot = slot; vote = vote }

  abbrev from_slot : SlotVote → Bool
  from_slot v = nat_le slot v.slot

  abbrev spot : List SlotVote → ℕ
  spot votes = position_or_len from_slot votes

  at_end : (votes : List SlotVote) → length votes ≤ spot votes → put slot vote votes ≡ votes ++ one ∷ []
  at_end [] e = refl
  at_end (v ∷ votes) e = go (nat_le slot v.slot) e (at_end votes)
    where
      go : (b : Bool) → suc (length votes) ≤ cond (not b) (1 + spot votes) 0 → (length votes ≤ spot votes → put slot vote votes ≡ votes ++ one ∷ []) → cond b (cond (nat_eq v.slot slot) (one ∷ votes) (one ∷ v ∷ votes)) (v ∷ put slot vote votes) ≡ v ∷ (votes ++ one ∷ [])
      go true e ih = absurd (omega (arith, e))
      go false e ih = ap (λ xs. v ∷ xs) (ih (omega (arith, e)))

  over : (votes : List SlotVote) (d : SlotVote) → spot votes < length votes → nat_eq (get_or votes (spot votes) d).slot slot ≡ true → slice_set votes (spot votes) one ≡ put slot vote votes
  over [] d e f = absurd (omega (arith, e))
  over (v ∷ votes) d e f = go (nat_le slot v.slot) e f (over votes d)
    where
      go : (b : Bool) → cond (not b) (1 + spot votes) 0 < suc (length votes) → nat_eq (get_or (v ∷ votes) (cond (not b) (1 + spot votes) 0) d).slot slot ≡ true → (spot votes < length votes → nat_eq (get_or votes (spot votes) d).slot slot ≡ true → slice_set votes (spot votes) one ≡ put slot vote votes) → slice_set (v ∷ votes) (cond (not b) (1 + spot votes) 0) one ≡ cond b (cond (nat_eq v.slot slot) (one ∷ votes) (one ∷ v ∷ votes)) (v ∷ put slot vote votes)
      go true e f ih = ap (λ b. cond b (one ∷ votes) (one ∷ v ∷ votes)) (sym f)
      go false e f ih =
          let k : 1 + spot votes ≡ suc (spot votes) = omega arith in
          ap (λ m. slice_set (v ∷ votes) m one) k ∙ ap (λ xs. v ∷ xs) (ih (omega (arith, e)) (sym (ap (λ m. nat_eq (get_or (v ∷ votes) m d).slot slot) k) ∙ f))

  between : (votes : List SlotVote) (d : SlotVote) → spot votes < length votes → nat_eq (get_or votes (spot votes) d).slot slot ≡ false → insert votes (spot votes) one ≡ put slot vote votes
  between [] d e f = absurd (omega (arith, e))
  between (v ∷ votes) d e f = go (nat_le slot v.slot) e f (between votes d)
    where
      go : (b : Bool) → cond (not b) (1 + spot votes) 0 < suc (length votes) → nat_eq (get_or (v ∷ votes) (cond (not b) (1 + spot votes) 0) d).slot slot ≡ false → (spot votes < length votes → nat_eq (get_or votes (spot votes) d).slot slot ≡ false → insert votes (spot votes) one ≡ put slot vote votes) → insert (v ∷ votes) (cond (not b) (1 + spot votes) 0) one ≡ cond b (cond (nat_eq v.slot slot) (one ∷ votes) (one ∷ v ∷ votes)) (v ∷ put slot vote votes)
      go true e f ih = ap (λ b. cond b (one ∷ votes) (one ∷ v ∷ votes)) (sym f)
      go false e f ih =
          let k : 1 + spot votes ≡ suc (spot votes) = omega arith in
          ap (λ m. insert (v ∷ votes) m one) k ∙ ap (λ xs. v ∷ xs) (ih (omega (arith, e)) (sym (ap (λ m. nat_eq (get_or (v ∷ votes) m d).slot slot) k) ∙ f))

  -- ---- by what `position` gives

  pub put_last : (votes old : List SlotVote) → votes ≡ old → position from_slot votes ≡ None → votes ++ one ∷ [] ≡ put slot vote old
  put_last votes old v e = sym (at_end votes (none_lt (spot votes) (length votes) e)) ∙ ap (put slot vote) v

  pub put_over : (votes old : List SlotVote) (i : ℕ) (d x : SlotVote) → votes ≡ old → position from_slot votes ≡ Some i → x ≡ get_or votes i d → nat_eq x.slot slot ≡ true → slice_set votes i one ≡ put slot vote old
  put_over votes old i d x v e g f =
      let p = some_lt (spot votes) (length votes) i e in
      ap (λ j. slice_set votes j one) (sym p.1) ∙ over votes d p.0 (ap (λ j. nat_eq (get_or votes j d).slot slot) p.1 ∙ ap (λ (y : SlotVote). nat_eq y.slot slot) (sym g) ∙ f) ∙ ap (put slot vote) v

  pub put_between : (votes old : List SlotVote) (i : ℕ) (d x : SlotVote) → votes ≡ old → position from_slot votes ≡ Some i → x ≡ get_or votes i d → nat_eq x.slot slot ≡ false → insert votes i one ≡ put slot vote old
  put_between votes old i d x v e g f =
      let p = some_lt (spot votes) (length votes) i e in
      ap (λ j. insert votes j one) (sym p.1) ∙ between votes d p.0 (ap (λ j. nat_eq (get_or votes j d).slot slot) p.1 ∙ ap (λ (y : SlotVote). nat_eq y.slot slot) (sym g) ∙ f) ∙ ap (put slot vote) v

  -- ---- what it does

  pub vote_put : (votes : List SlotVote) (q : ℕ) → vote_in (put slot vote votes) q ≡ cond (nat_eq slot q) (Some vote) (vote_in votes q)
  vote_put [] q = refl
  vote_put (v ∷ votes) q = go (nat_le slot v.slot) (nat_eq v.slot slot) refl refl (vote_put votes q)
    where
      same : v.slot ≡ slot → cond (nat_eq slot q) (Some vote) (vote_in votes q) ≡ cond (nat_eq slot q) (Some vote) (cond (nat_eq v.slot q) (Some v.vote) (vote_in votes q))
      same e = by (nat_eq slot q) (ap (λ s. nat_eq s q) e)
        where
          by : (b : Bool) → nat_eq v.slot q ≡ b → cond b (Some vote) (vote_in votes q) ≡ cond b (Some vote) (cond (nat_eq v.slot q) (Some v.vote) (vote_in votes q))
          by true f = refl
          by false f = sym (ap (λ b. cond b (Some v.vote) (vote_in votes q)) f)

      apart : nat_le slot v.slot ≡ false → cond (nat_eq v.slot q) (Some v.vote) (cond (nat_eq slot q) (Some vote) (vote_in votes q)) ≡ cond (nat_eq slot q) (Some vote) (cond (nat_eq v.slot q) (Some v.vote) (vote_in votes q))
      apart e = by (nat_eq v.slot q) refl (nat_eq slot q) refl
        where
          by : (a : Bool) → nat_eq v.slot q ≡ a → (b : Bool) → nat_eq slot q ≡ b → cond a (Some v.vote) (cond b (Some vote) (vote_in votes q)) ≡ cond b (Some vote) (cond a (Some v.vote) (vote_in votes q))
          by true f true g = absurd (omega (arith, leb-false slot v.slot e, eqb-true v.slot q f, eqb-true slot q g))
          by true f false g = refl
          by false f b g = refl

      go : (a b : Bool) → nat_le slot v.slot ≡ a → nat_eq v.slot slot ≡ b → vote_in (put slot vote votes) q ≡ cond (nat_eq slot q) (Some vote) (vote_in votes q) → vote_in (cond a (cond b (one ∷ votes) (one ∷ v ∷ votes)) (v ∷ put slot vote votes)) q ≡ cond (nat_eq slot q) (Some vote) (cond (nat_eq v.slot q) (Some v.vote) (vote_in votes q))
      go true true e f ih = same (eqb-true v.slot slot f)
      go true false e f ih = refl
      go false b e f ih = ap (cond (nat_eq v.slot q) (Some v.vote)) ih ∙ apart e

  pub within_put : (votes : List SlotVote) (first last : ℕ) → first ≤ slot → slot < last → IsWithin first last votes → IsWithin first last (put slot vote votes)
  within_put [] first last low high w = (low, high, tt)
  within_put (v ∷ votes) first last low high w = go (nat_le slot v.slot) (nat_eq v.slot slot) refl refl (λ up. within_put votes (v.slot + 1) last up high w.2)
    where
      strictly : slot ≤ v.slot → (v.slot ≡ slot → ⊥) → slot < v.slot
      strictly h k = omega (arith, h, k)

      later : slot < v.slot → IsWithin (slot + 1) last (v ∷ votes)
      later up = (omega (arith, up), w.1, w.2)

      go : (a b : Bool) → nat_le slot v.slot ≡ a → nat_eq v.slot slot ≡ b → (v.slot + 1 ≤ slot → IsWithin (v.slot + 1) last (put slot vote votes)) → IsWithin first last (cond a (cond b (one ∷ votes) (one ∷ v ∷ votes)) (v ∷ put slot vote votes))
      go true true e f ih = (low, high, subst (λ s. IsWithin (s + 1) last votes) (eqb-true v.slot slot f) w.2)
      go true false e f ih = (low, high, later (strictly (leb-true slot v.slot e) (eqb-false v.slot slot f)))
      go false b e f ih = (w.0, w.1, ih (omega (arith, leb-false slot v.slot e)))

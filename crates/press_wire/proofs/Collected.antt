-- The votes of a block, collected slot by slot.
use Rattle.std.proofs.Common.{ℕ, zero, suc, ◌+◌, ◌<◌, ◌≤◌, ◌≡◌, ◌≢◌, ◌⊎◌, inl, inr, nat_eq, List, [], ◌∷◌, Option, None, Some, refl, sym, subst, ap, ◌∙◌, arith}
use Rattle.std.proofs.lemmas.Bool.{cases_eq, eq-eqb, ne_eqb, cond-true, cond-false}
use Rattle.std.specs.List.{range_with_len}
use Rattle.press_wire.specs.Blocks.{slots_of}
use Rattle.press_wire.specs.Votes.{vote_in, with_vote, votes_at, IsWithin}
use Rattle.press_wire.specs.declared.vote.Vote.{Vote}
use Rattle.press_wire.specs.declared.votes.SlotVote.{SlotVote}

-- where the first vote is for another slot
vote_past : (v : SlotVote) (votes : List SlotVote) (slot : ℕ) → v.slot ≢ slot → vote_in (v ∷ votes) slot ≡ vote_in votes slot
vote_past v votes slot apart = cond-false (nat_eq v.slot slot) (Some v.vote) (vote_in votes slot) (ne_eqb v.slot slot apart)

vote_first : (v : SlotVote) (votes : List SlotVote) (slot : ℕ) → v.slot ≡ slot → vote_in (v ∷ votes) slot ≡ Some v.vote
vote_first v votes slot same = cond-true (nat_eq v.slot slot) (Some v.vote) (vote_in votes slot) (eq-eqb v.slot slot same)

-- before the first slot there is none
pub none_before : (votes : List SlotVote) (first last slot : ℕ) → slot < first → IsWithin first last votes → vote_in votes slot ≡ None
none_before [] first last slot h w = refl
none_before (v ∷ votes) first last slot h w = vote_past v votes slot (λ e. omega (arith, e, h, w.0)) ∙ none_before votes (v.slot + 1) last slot (omega (arith, h, w.0)) w.2

-- only what these slots have matters
pub votes_same : (f g : ℕ → Option Vote) (a n : ℕ) → ((slot : ℕ) → a ≤ slot → slot < a + n → f slot ≡ g slot) → votes_at f (range_with_len a n) ≡ votes_at g (range_with_len a n)
votes_same f g a zero h = refl
votes_same f g a (suc n) h =
    ap (λ o. with_vote a o (votes_at f (range_with_len (a + 1) n))) (h a (omega arith) (omega arith))
    ∙ ap (with_vote a (g a)) (votes_same f g (a + 1) n (λ slot low high. h slot (omega (arith, low)) (omega (arith, high))))

pub votes_none : (f : ℕ → Option Vote) (a n : ℕ) → ((slot : ℕ) → a ≤ slot → slot < a + n → f slot ≡ None) → votes_at f (range_with_len a n) ≡ []
votes_none f a zero h = refl
votes_none f a (suc n) h =
    ap (λ o. with_vote a o (votes_at f (range_with_len (a + 1) n))) (h a (omega arith) (omega arith))
    ∙ votes_none f (a + 1) n (λ slot low high. h slot (omega (arith, low)) (omega (arith, high)))

-- slots that rise are collected as they stand
pub collected : (votes : List SlotVote) (a n : ℕ) → IsWithin a (a + n) votes → votes_at (vote_in votes) (range_with_len a n) ≡ votes
collected [] a n w = votes_none (vote_in []) a n (λ slot low high. refl)
collected (v ∷ votes) a zero w = absurd (omega (arith, w.0, w.1))
collected (v ∷ votes) a (suc n) w = go (cases_eq v.slot a) (λ w'. collected votes (a + 1) n w') (λ w'. collected (v ∷ votes) (a + 1) n w')
  where
    go : (v.slot ≡ a) ⊎ (v.slot ≡ a → ⊥) → (IsWithin (a + 1) (a + 1 + n) votes → votes_at (vote_in votes) (range_with_len (a + 1) n) ≡ votes) → (IsWithin (a + 1) (a + 1 + n) (v ∷ votes) → votes_at (vote_in (v ∷ votes)) (range_with_len (a + 1) n) ≡ v ∷ votes) → votes_at (vote_in (v ∷ votes)) (range_with_len a (suc n)) ≡ v ∷ votes
    go (inl same) rest whole =
        ap (λ o. with_vote a o (votes_at (vote_in (v ∷ votes)) (range_with_len (a + 1) n))) (vote_first v votes a same)
        ∙ ap (λ xs. record { slot = a; vote = v.vote } ∷ xs) (votes_same (vote_in (v ∷ votes)) (vote_in votes) (a + 1) n (λ slot low high. vote_past v votes slot (λ e. omega (arith, e, low, same))) ∙ rest (within_at (v.slot + 1) (a + suc n) (a + 1) (a + 1 + n) votes (omega (arith, same)) (omega arith) w.2))
        ∙ ap (λ s. record { slot = s; vote = v.vote } ∷ votes) (sym same)
      where
        within_at : (x y x' y' : ℕ) (vs : List SlotVote) → x ≡ x' → y ≡ y' → IsWithin x y vs → IsWithin x' y' vs
        within_at x y x' y' vs e f h = subst (λ z. IsWithin z y' vs) e (subst (λ z. IsWithin x z vs) f h)
    go (inr apart) rest whole =
        ap (λ o. with_vote a o (votes_at (vote_in (v ∷ votes)) (range_with_len (a + 1) n))) (vote_past v votes a apart ∙ none_before votes (v.slot + 1) (a + suc n) a (omega (arith, w.0)) w.2)
        ∙ whole (omega (arith, w.0, apart), omega (arith, w.1), subst (λ z. IsWithin (v.slot + 1) z votes) (omega arith) w.2)

pub block_collected : (votes : List SlotVote) (block : ℕ) → IsWithin block (block + 16) votes → votes_at (vote_in votes) (slots_of block) ≡ votes
unfolding slots_of
block_collected votes block w = collected votes block 16 w

pub block_same : (f g : ℕ → Option Vote) (block : ℕ) → ((slot : ℕ) → block ≤ slot → slot < block + 16 → f slot ≡ g slot) → votes_at f (slots_of block) ≡ votes_at g (slots_of block)
unfolding slots_of
block_same f g block h = votes_same f g block 16 h

pub block_none : (f : ℕ → Option Vote) (block : ℕ) → ((slot : ℕ) → block ≤ slot → slot < block + 16 → f slot ≡ None) → votes_at f (slots_of block) ≡ []
unfolding slots_of
block_none f block h = votes_none f block 16 h

-- ---- what is collected

within_collected : (f : ℕ → Option Vote) (a n : ℕ) → IsWithin a (a + n) (votes_at f (range_with_len a n))
within_collected f a zero = tt
within_collected f a (suc n) = go (f a) (subst (λ z. IsWithin (a + 1) z (votes_at f (range_with_len (a + 1) n))) (omega arith) (within_collected f (a + 1) n))
  where
    wider : (votes : List SlotVote) (z : ℕ) → IsWithin (a + 1) z votes → IsWithin a z votes
    wider [] z w = tt
    wider (v ∷ votes) z w = (omega (arith, w.0), w.1, w.2)

    go : (o : Option Vote) → IsWithin (a + 1) (a + suc n) (votes_at f (range_with_len (a + 1) n)) → IsWithin a (a + suc n) (with_vote a o (votes_at f (range_with_len (a + 1) n)))
    go None w = wider _ _ w
    go (Some vote) w = (omega arith, omega arith, w)

vote_collected : (f : ℕ → Option Vote) (a n slot : ℕ) → a ≤ slot → slot < a + n → vote_in (votes_at f (range_with_len a n)) slot ≡ f slot
vote_collected f a zero slot low high = absurd (omega (arith, low, high))
vote_collected f a (suc n) slot low high = go (f a) refl (cases_eq a slot) (λ l h. vote_collected f (a + 1) n slot l h)
  where
    rest : List SlotVote
    rest = votes_at f (range_with_len (a + 1) n)

    go : (o : Option Vote) → f a ≡ o → (a ≡ slot) ⊎ (a ≡ slot → ⊥) → (a + 1 ≤ slot → slot < a + 1 + n → vote_in rest slot ≡ f slot) → vote_in (with_vote a o rest) slot ≡ f slot
    go None e (inl same) ih = none_before rest (a + 1) (a + 1 + n) slot (omega (arith, same)) (within_collected f (a + 1) n) ∙ sym (ap f (sym same) ∙ e)
    go (Some vote) e (inl same) ih = vote_first (record { slot = a; vote = vote }) rest slot same ∙ sym (ap f (sym same) ∙ e)
    go None e (inr apart) ih = ih (omega (arith, low, apart)) (omega (arith, high))
    go (Some vote) e (inr apart) ih = vote_past (record { slot = a; vote = vote }) rest slot apart ∙ ih (omega (arith, low, apart)) (omega (arith, high))

pub block_within : (f : ℕ → Option Vote) (block : ℕ) → IsWithin block (block + 16) (votes_at f (slots_of block))
unfolding slots_of
block_within f block = within_collected f block 16

pub vote_in_block : (f : ℕ → Option Vote) (block slot : ℕ) → block ≤ slot → slot < block + 16 → vote_in (votes_at f (slots_of block)) slot ≡ f slot
unfolding slots_of
vote_in_block f block slot low high = vote_collected f block 16 slot low high

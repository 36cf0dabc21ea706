-- Blocks in memory, and what they stand for.
use Rattle.std.proofs.Common.{ℕ, ◌+◌, ◌<◌, ◌≤◌, ◌≡◌, ◌≢◌, ◌⊎◌, inl, inr, cond, nat_eq, List, [], Option, None, Some, refl, sym, subst, ap, ◌∙◌, arith}
use Rattle.std.proofs.lemmas.Bool.{cases_eq, eq-eqb, ne_eqb, cond-true, cond-false}
use Rattle.std.specs.BTreeMap.{is_at}
use Rattle.std.specs.Cmp.{unsigned_tied}
use Rattle.std.specs.FinMap.{insert}
use Rattle.std.specs.Ordering.{nat_cmp}
use Rattle.std.specs.Prelude.{IsSome}
use Rattle.press_wire.specs.Blocks.{block_of}
use Rattle.press_wire.specs.Votes.{cast_again, vote_in, put, IsWithin}
use Rattle.press_wire.specs.declared.ballot.Ballot.{Ballot}
use Rattle.press_wire.specs.declared.vote.Vote.{Vote}
use Rattle.press_wire.specs.declared.votes.SlotVote.{SlotVote}
use Rattle.press_apply.specs.declared.value.Value.{Value}
use Rattle.press_wire.proofs.Blocks.{in_block, of_block, last_block}
use Rattle.press_wire.proofs.Casts.{cast_put}
use Rattle.press_wire.proofs.Collected.{block_collected, block_same, block_none, block_within, vote_in_block}
use Rattle.press_wire.proofs.Puts.{vote_put, within_put}
use Rattle.press_acceptor.specs.InMemory.{at, promise_in, vote_inside, promises_held, votes_held, store_of, AreBlocks, IsNewValue, map_of, value_of}
use Rattle.press_acceptor.specs.StoreMap.{new_block, new_store, promise_of, vote_of, block_votes, block_at, with_promise, with_vote}
use Rattle.press_acceptor.specs.declared.block.Block.{Block}
use Rattle.press_acceptor.proofs.Maps.{IsSlot, map_get, map_same, map_set, map_none}

-- a block that has promised
abbrev pub promising : Ballot → List SlotVote → Block
promising ballot votes = record { promised = Some ballot; votes = votes }

-- ---- what is read

-- the slots of a block are slots
pub slots : (first slot : ℕ) → IsSlot first → block_of first ≡ first → first ≤ slot → slot < first + 16 → IsSlot slot
slots first slot i e low high = let l = last_block first e i.0 i.1 in (omega (arith, i.0, low), omega (arith, l, high))

module _ (blocks : List (ℕ × Block)) (round first : ℕ) (i : IsSlot first) (e : block_of first ≡ first) where
  -- what is held for a slot of the block
  held : (slot : ℕ) → first ≤ slot → slot < first + 16 → vote_of (store_of blocks round) slot ≡ vote_inside (at blocks first) slot
  held slot low high = map_get (votes_held blocks) slot (slots first slot i e low high) ∙ ap (λ b. vote_inside (at blocks b) slot) (of_block first slot e i.0 low high)

  pub read_block : (block : Block) → AreBlocks blocks → at blocks first ≡ Some block → block ≡ block_at (store_of blocks round) first
  read_block block are is = λ j. record { promised = promised j; votes = votes j }
    where
      promised : block.promised ≡ promise_of (store_of blocks round) first
      promised = sym (map_get (promises_held blocks) first i ∙ ap promise_in is)

      votes : block.votes ≡ block_votes (store_of blocks round) first
      votes =
          sym (block_collected block.votes first (are first block is).1)
          ∙ block_same (vote_in block.votes) (vote_of (store_of blocks round)) first (λ slot low high. sym (held slot low high ∙ ap (λ o. vote_inside o slot) is))

  pub read_none : at blocks first ≡ None → block_at (store_of blocks round) first ≡ new_block
  read_none is = λ j. record { promised = promised j; votes = votes j }
    where
      promised : promise_of (store_of blocks round) first ≡ None
      promised = map_get (promises_held blocks) first i ∙ ap promise_in is

      votes : block_votes (store_of blocks round) first ≡ []
      votes = block_none (vote_of (store_of blocks round)) first (λ slot low high. held slot low high ∙ ap (λ o. vote_inside o slot) is)

  -- a block that promises anew
  pub promised_anew : (ballot : Ballot) (kept : Block) → AreBlocks blocks → at blocks first ≡ Some kept → promising ballot kept.votes ≡ promising ballot (block_votes (store_of blocks round) first)
  promised_anew ballot kept are is = ap (λ (b : Block). promising ballot b.votes) (read_block kept are is)

  -- a block in which a vote is put
  pub put_anew : (slot : ℕ) (vote : Vote) (kept : Block) → AreBlocks blocks → at blocks first ≡ Some kept → promising vote.ballot (put slot vote kept.votes) ≡ promising vote.ballot (put slot vote (block_votes (store_of blocks round) first))
  put_anew slot vote kept are is = ap (λ (b : Block). promising vote.ballot (put slot vote b.votes)) (read_block kept are is)

  -- a block whose vote for the slot, which has this value, is cast again
  pub cast_anew : (slot : ℕ) (vote : Vote) (kept : Block) → AreBlocks blocks → at blocks first ≡ Some kept → value_of (vote_in kept.votes slot) ≡ Some vote.value → promising vote.ballot (cast_again slot vote.ballot kept.votes) ≡ promising vote.ballot (put slot vote (block_votes (store_of blocks round) first))
  cast_anew slot vote kept are is same = ap (promising vote.ballot) (go (vote_in kept.votes slot) refl same) ∙ put_anew slot vote kept are is
    where
      go : (o : Option Vote) → vote_in kept.votes slot ≡ o → value_of o ≡ Some vote.value → cast_again slot vote.ballot kept.votes ≡ put slot vote kept.votes
      go None v e = let x : None ≡ Some vote.value = e in cc
      go (Some cast) v e = let x : Some cast.value ≡ Some vote.value = e in let y : cast.value ≡ vote.value = cc in cast_put slot vote kept.votes first (first + 16) (are first kept is).1 cast v y

  -- a block whose vote for the slot has another value, or that has none
  pub other_value : (slot : ℕ) (value : Value) (o : Option Block) → first ≤ slot → slot < first + 16 → at blocks first ≡ o → value_of (vote_inside o slot) ≢ Some value → IsNewValue (store_of blocks round) slot value
  other_value slot value o low high is apart = subst (λ v. value_of v ≢ Some value) (sym (held slot low high ∙ ap (λ b. vote_inside b slot) is)) apart

-- ---- what is put in

module _ (old new : List (ℕ × Block)) (key first : ℕ) (block : Block) (k : key ≡ first) (puts : (q : ℕ) → at new q ≡ cond (is_at (nat_cmp key) q) (Some block) (at old q)) where
  at_here : (q : ℕ) → q ≡ first → at new q ≡ Some block
  at_here q e = puts q ∙ cond-true (is_at (nat_cmp key) q) (Some block) (at old q) (unsigned_tied key q ∙ eq-eqb key q (k ∙ sym e))

  at_there : (q : ℕ) → q ≢ first → at new q ≡ at old q
  at_there q e = puts q ∙ cond-false (is_at (nat_cmp key) q) (Some block) (at old q) (unsigned_tied key q ∙ ne_eqb key q (λ h. e (sym h ∙ k)))

  still_blocks : IsSome block.promised → IsWithin first (first + 16) block.votes → AreBlocks old → AreBlocks new
  still_blocks some within are q b is = go (cases_eq q first)
    where
      go : (q ≡ first) ⊎ (q ≡ first → ⊥) → IsSome b.promised × IsWithin q (q + 16) b.votes
      go (inl e) =
          let x : Some block ≡ Some b = sym (at_here q e) ∙ is in
          let y : block ≡ b = cc in
          subst (λ (z : Block). IsSome z.promised × IsWithin q (q + 16) z.votes) y (some, subst (λ z. IsWithin z (z + 16) block.votes) (sym e) within)
      go (inr e) = are q b (sym (at_there q e) ∙ is)

  -- ---- the very block that was there

  at_same : at old first ≡ Some block → (q : ℕ) → at new q ≡ at old q
  at_same is q = go (cases_eq q first)
    where
      go : (q ≡ first) ⊎ (q ≡ first → ⊥) → at new q ≡ at old q
      go (inl e) = at_here q e ∙ sym is ∙ ap (at old) (sym e)
      go (inr e) = at_there q e

  pub same_store : (round : ℕ) → at old first ≡ Some block → store_of new round ≡ store_of old round
  same_store round is = λ j. record { promises = promises j; votes = votes j; last_round = round }
    where
      promises : map_of (promises_held new) ≡ map_of (promises_held old)
      promises = map_same (promises_held old) (promises_held new) (λ q s. ap promise_in (at_same is q))

      votes : map_of (votes_held new) ≡ map_of (votes_held old)
      votes = map_same (votes_held old) (votes_held new) (λ q s. ap (λ o. vote_inside o q) (at_same is (block_of q)))

  pub same_blocks : at old first ≡ Some block → AreBlocks old → AreBlocks new
  same_blocks is are = let b = are first block is in still_blocks b.0 b.1 are

  -- ---- another block

  module _ (round : ℕ) (i : IsSlot first) where
    promises_put : (ballot : Ballot) → block.promised ≡ Some ballot → map_of (promises_held new) ≡ insert (map_of (promises_held old)) first ballot
    promises_put ballot e = map_set (promises_held old) (promises_held new) first ballot i (ap promise_in (at_here first refl) ∙ e) (λ q s apart. ap promise_in (at_there q apart))

    -- the votes of other blocks are as they were
    votes_there : (q : ℕ) → block_of q ≢ first → votes_held new q ≡ votes_held old q
    votes_there q apart = ap (λ o. vote_inside o q) (at_there (block_of q) apart)

    votes_here : (q : ℕ) → block_of q ≡ first → votes_held new q ≡ vote_in block.votes q
    votes_here q same = ap (λ o. vote_inside o q) (at_here (block_of q) same)

    -- of what was read before
    votes_read : (q : ℕ) → IsSlot q → block_of q ≡ first → vote_in (block_votes (store_of old round) first) q ≡ votes_held old q
    votes_read q s same =
        let b = in_block q first same in
        vote_in_block (vote_of (store_of old round)) first q b.0 b.1 ∙ map_get (votes_held old) q s

    pub promise_put : (ballot : Ballot) → block ≡ record { promised = Some ballot; votes = block_votes (store_of old round) first } → store_of new round ≡ with_promise (store_of old round) first ballot
    promise_put ballot is = λ j. record { promises = promises_put ballot (ap (λ (b : Block). b.promised) is) j; votes = votes j; last_round = round }
      where
        votes : map_of (votes_held new) ≡ map_of (votes_held old)
        votes = map_same (votes_held old) (votes_held new) (λ q s. go q s (cases_eq (block_of q) first))
          where
            go : (q : ℕ) → IsSlot q → (block_of q ≡ first) ⊎ (block_of q ≡ first → ⊥) → votes_held new q ≡ votes_held old q
            go q s (inl same) = votes_here q same ∙ ap (λ (b : Block). vote_in b.votes q) is ∙ votes_read q s same
            go q s (inr apart) = votes_there q apart

    pub vote_put_in : (slot : ℕ) (vote : Vote) → IsSlot slot → first ≡ block_of slot → block ≡ record { promised = Some vote.ballot; votes = put slot vote (block_votes (store_of old round) first) } → store_of new round ≡ with_vote (store_of old round) slot vote
    vote_put_in slot vote here f is = λ j. record { promises = promises j; votes = votes j; last_round = round }
      where
        promises : map_of (promises_held new) ≡ insert (map_of (promises_held old)) (block_of slot) vote.ballot
        promises = promises_put vote.ballot (ap (λ (b : Block). b.promised) is) ∙ ap (λ b. insert (map_of (promises_held old)) b vote.ballot) f

        put_at : (q : ℕ) → block_of q ≡ first → votes_held new q ≡ cond (nat_eq slot q) (Some vote) (vote_in (block_votes (store_of old round) first) q)
        put_at q same = votes_here q same ∙ ap (λ (b : Block). vote_in b.votes q) is ∙ vote_put slot vote (block_votes (store_of old round) first) q

        votes : map_of (votes_held new) ≡ insert (map_of (votes_held old)) slot vote
        votes = map_set (votes_held old) (votes_held new) slot vote here (put_at slot (sym f) ∙ cond-true (nat_eq slot slot) (Some vote) _ (eq-eqb slot slot refl)) (λ q s apart. go q s apart (cases_eq (block_of q) first))
          where
            go : (q : ℕ) → IsSlot q → q ≢ slot → (block_of q ≡ first) ⊎ (block_of q ≡ first → ⊥) → votes_held new q ≡ votes_held old q
            go q s apart (inl same) = put_at q same ∙ cond-false (nat_eq slot q) (Some vote) _ (ne_eqb slot q (λ h. apart (sym h))) ∙ votes_read q s same
            go q s apart (inr other) = votes_there q other

    pub promise_blocks : (ballot : Ballot) → block ≡ record { promised = Some ballot; votes = block_votes (store_of old round) first } → AreBlocks old → AreBlocks new
    promise_blocks ballot is are = still_blocks (subst (λ (b : Block). IsSome b.promised) (sym is) refl) (subst (λ (b : Block). IsWithin first (first + 16) b.votes) (sym is) (block_within (vote_of (store_of old round)) first)) are

    pub vote_blocks : (slot : ℕ) (vote : Vote) → first ≡ block_of slot → block ≡ record { promised = Some vote.ballot; votes = put slot vote (block_votes (store_of old round) first) } → AreBlocks old → AreBlocks new
    vote_blocks slot vote f is are =
        let b = in_block slot first (sym f) in
        still_blocks (subst (λ (b : Block). IsSome b.promised) (sym is) refl) (subst (λ (b : Block). IsWithin first (first + 16) b.votes) (sym is)
        (within_put slot vote (block_votes (store_of old round) first) first (first + 16) b.0 b.1 (block_within (vote_of (store_of old round)) first))) are

-- ---- at the start

pub empty_store : store_of [] 0 ≡ new_store
empty_store = λ j. record { promises = map_none j; votes = map_none j; last_round = 0 }

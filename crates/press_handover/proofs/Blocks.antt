-- The values of votes, block after block, as loops take them.
use Rattle.std.proofs.Common.{◌≡◌, ◌∙◌, ℕ, zero, suc, ◌+◌, ◌-◌, ◌*◌, ◌%◌, ◌<◌, ◌≤◌, Bool, true, false, cond, eqb, List, [], ◌∷◌, ◌++◌, length, get_or, drop, length-append, refl, sym, ap, subst, append_assoc, append-nil, arith}
use Rattle.std.proofs.Math.ListN.{drop_of_length-le}
use Rattle.std.proofs.lemmas.Bool.{eq-eqb, eqb-true}
use Rattle.std.proofs.lemmas.List.FromFn.{length-range_with_len}
use Rattle.std.specs.Prelude.{Option, None, Some}
use Rattle.press_acceptor.specs.StoreMap.{StoreMap, block_votes, vote_of}
use Rattle.press_apply.specs.declared.value.Value.{Value}
use Rattle.press_wire.specs.Blocks.{block_of, is_first, slots_of}
use Rattle.press_wire.specs.Votes.{votes_at, with_vote}
use Rattle.press_wire.specs.declared.vote.Vote.{Vote}
use Rattle.press_wire.specs.declared.votes.SlotVote.{SlotVote}
use Rattle.press_handover.specs.Voted.{Visits, blocks_values, front_values, voted_values}
use Rattle.press_handover.proofs.Pieces.{next_is}
use Rattle.press_handover.proofs.Visited.{joined}

-- the first slot of a block
pub first_is_first : (block : ℕ) → is_first (16 * block + 1) ≡ true
unfolding block_of
first_is_first block = eq-eqb (16 * block + 1 - (16 * block + 1 - 1) % 16) (16 * block + 1) (omega arith)

-- ---- the votes of a block

taken : (slot : ℕ) (v : SlotVote) (vs : List SlotVote) → v.slot ≡ slot → front_values slot (v ∷ vs) ≡ v.vote.value ∷ front_values (slot + 1) vs
taken slot v vs e = rw (eq-eqb v.slot slot e) refl

stopped : (slot : ℕ) (v : SlotVote) (vs : List SlotVote) → (v.slot ≡ slot → ⊥) → front_values slot (v ∷ vs) ≡ []
stopped slot v vs other = go (eqb v.slot slot) refl
  where
    go : (b : Bool) → b ≡ eqb v.slot slot → cond b (v.vote.value ∷ front_values (slot + 1) vs) [] ≡ []
    go true e = absurd (other (eqb-true v.slot slot (sym e)))
    go false e = refl

module _ (votes : List SlotVote) (i next : ℕ) (values whole : List Value) where
  pub goes_on : (v : SlotVote) (after : List Value) (behind : ℕ) → i < length votes → v ≡ get_or votes i v → v.slot ≡ next → after ≡ values ++ v.vote.value ∷ [] → behind ≡ next + 1
      → values ++ front_values next (drop i votes) ≡ whole → after ++ front_values behind (drop (i + 1) votes) ≡ whole
  goes_on v after behind lt here same put on so_far =
      let one : front_values next (drop i votes) ≡ v.vote.value ∷ front_values (next + 1) (drop (i + 1) votes) =
      ap (front_values next) (next_is votes i v lt here) ∙ taken next v (drop (i + 1) votes) same in
      ap (λ (ys : List Value). ys ++ front_values behind (drop (i + 1) votes)) put
      ∙ ap (λ (n : ℕ). (values ++ v.vote.value ∷ []) ++ front_values n (drop (i + 1) votes)) on
      ∙ append_assoc values (v.vote.value ∷ []) (front_values (next + 1) (drop (i + 1) votes)) ∙ sym (ap (λ (ys : List Value). values ++ ys) one) ∙ so_far

  pub stops : (v : SlotVote) → i < length votes → v ≡ get_or votes i v → (v.slot ≡ next → ⊥) → values ++ front_values next (drop i votes) ≡ whole → values ≡ whole
  stops v lt here other so_far =
      let none : front_values next (drop i votes) ≡ [] = ap (front_values next) (next_is votes i v lt here) ∙ stopped next v (drop (i + 1) votes) other in
      sym (append-nil values) ∙ sym (ap (λ (ys : List Value). values ++ ys) none) ∙ so_far

  pub ends : length votes ≤ i → values ++ front_values next (drop i votes) ≡ whole → values ≡ whole
  ends le so_far =
      let none : front_values next (drop i votes) ≡ [] = rw (drop_of_length-le votes le) refl in
      sym (append-nil values) ∙ sym (ap (λ (ys : List Value). values ++ ys) none) ∙ so_far

-- ---- no block has more than 16

front_short : (slot : ℕ) (vs : List SlotVote) → length (front_values slot vs) ≤ length vs
front_short slot [] = omega arith
front_short slot (v ∷ vs) = go (eqb v.slot slot) (front_short (slot + 1) vs)
  where
    go : (b : Bool) → length (front_values (slot + 1) vs) ≤ length vs → length (cond b (v.vote.value ∷ front_values (slot + 1) vs) []) ≤ suc (length vs)
    go true short = omega arith
    go false short = omega arith

votes_short : (find : ℕ → Option Vote) (slots : List ℕ) → length (votes_at find slots) ≤ length slots
votes_short find [] = omega arith
votes_short find (slot ∷ slots) = go (find slot) (votes_short find slots)
  where
    go : (found : Option Vote) → length (votes_at find slots) ≤ length slots → length (with_vote slot found (votes_at find slots)) ≤ suc (length slots)
    go None short = omega arith
    go (Some vote) short = omega arith

slots_long : (first : ℕ) → length (slots_of first) ≡ 16
unfolding slots_of
slots_long first = length-range_with_len first 16

pub block_short : (first : ℕ) (store : StoreMap) → length (front_values first (block_votes store first)) ≤ 16
block_short first store =
    let front = front_short first (block_votes store first) in
    let votes = votes_short (vote_of store) (slots_of first) in
    let slots = slots_long first in
    omega arith

-- ---- block after block

turn : (n first : ℕ) (store : StoreMap)
    → blocks_values (suc n) first store ≡ front_values first (block_votes store first) ++ cond (eqb (length (front_values first (block_votes store first))) 16) (blocks_values n (first + 16) store) []
unfolding blocks_values
turn n first store = refl

pub no_block : (first : ℕ) (store : StoreMap) → blocks_values 0 first store ≡ []
unfolding blocks_values
no_block first store = refl

full_turn : (n first : ℕ) (store : StoreMap) (values : List Value) → values ≡ front_values first (block_votes store first) → 16 ≤ length values
    → blocks_values (suc n) first store ≡ values ++ blocks_values n (first + 16) store
full_turn n first store values is full =
    let short = block_short first store in
    let long = ap (λ (vs : List Value). length vs) is in
    let exact : length (front_values first (block_votes store first)) ≡ 16 = omega arith in
    turn n first store ∙ rw (eq-eqb (length (front_values first (block_votes store first))) 16 exact, is) refl

last_turn : (n first : ℕ) (store : StoreMap) (values : List Value) → values ≡ front_values first (block_votes store first) → length values < 16
    → blocks_values (suc n) first store ≡ values
last_turn n first store values is few = turn n first store ∙ go (eqb (length (front_values first (block_votes store first))) 16) refl ∙ sym is
  where
    go : (b : Bool) → b ≡ eqb (length (front_values first (block_votes store first))) 16
        → front_values first (block_votes store first) ++ cond b (blocks_values n (first + 16) store) [] ≡ front_values first (block_votes store first)
    go true e =
        let exact = eqb-true (length (front_values first (block_votes store first))) 16 (sym e) in
        let long = ap (λ (vs : List Value). length vs) is in
        absurd (omega arith)
    go false e = append-nil (front_values first (block_votes store first))

module _ {V : Type 0} (one : V → Value → V → Type 0) (n first : ℕ) (store : StoreMap) (values : List Value) (old mid : V) where
  -- a full block was shown, and the others are next
  pub shows_block : values ≡ front_values first (block_votes store first) → 16 ≤ length values → Visits one old values mid
      → (new : V) → Visits one mid (blocks_values n (first + 16) store) new → Visits one old (blocks_values (suc n) first store) new
  shows_block is full shown new rest =
      subst (λ (vs : List Value). Visits one old vs new) (sym (full_turn n first store values is full)) (joined one values (blocks_values n (first + 16) store) old mid new shown rest)

  -- a block that isn't full was shown, and there is no other
  pub shows_last : values ≡ front_values first (block_votes store first) → length values < 16 → Visits one old values mid → Visits one old (blocks_values (suc n) first store) mid
  shows_last is few shown = subst (λ (vs : List Value). Visits one old vs mid) (sym (last_turn n first store values is few)) shown

-- ---- how many values there are

behind_few : (b : Bool) (xs : List Value) (n : ℕ) → length xs ≤ n → length (cond b xs []) ≤ n
behind_few true xs n few = few
behind_few false xs n few = omega arith

blocks_few : (n first : ℕ) (store : StoreMap) → length (blocks_values n first store) ≤ 16 * n
blocks_few zero first store = rw (no_block first store) (omega arith)
blocks_few (suc n) first store =
    let values = front_values first (block_votes store first) in
    let short = block_short first store in
    let more = behind_few (eqb (length values) 16) (blocks_values n (first + 16) store) (16 * n) (blocks_few n (first + 16) store) in
    let both = length-append values (cond (eqb (length values) 16) (blocks_values n (first + 16) store) []) in
    rw (turn n first store) (omega arith)

pub values_few : (store : StoreMap) → length (voted_values store) ≤ 1000000
unfolding voted_values
values_few store = let few = blocks_few 62500 1 store in omega arith

-- ---- as the loop over blocks takes them

module _ {V : Type 0} (one : V → Value → V → Type 0) (block first : ℕ) (lt : block < 62500) (first_is : first ≡ 16 * block + 1) (kept store : StoreMap) (same : kept ≡ store)
    (values : List Value) (are : values ≡ front_values first (block_votes kept first)) (old mid : V) (shown : Visits one old values mid) where
  here : values ≡ front_values (16 * block + 1) (block_votes store (16 * block + 1))
  here = are ∙ ap (λ (f : ℕ). front_values f (block_votes kept f)) first_is ∙ ap (λ (s : StoreMap). front_values (16 * block + 1) (block_votes s (16 * block + 1))) same

  left : suc (62500 - (block + 1)) ≡ 62500 - block
  left = omega arith

  next_first : 16 * (block + 1) + 1 ≡ 16 * block + 1 + 16
  next_first = omega arith

  pub full_block : 16 ≤ length values → (new : V) → Visits one mid (blocks_values (62500 - (block + 1)) (16 * (block + 1) + 1) store) new
      → Visits one old (blocks_values (62500 - block) (16 * block + 1) store) new
  full_block full new rest =
      let behind : Visits one mid (blocks_values (62500 - (block + 1)) (16 * block + 1 + 16) store) new = subst (λ (f : ℕ). Visits one mid (blocks_values (62500 - (block + 1)) f store) new) next_first rest in
      subst (λ (n : ℕ). Visits one old (blocks_values n (16 * block + 1) store) new) left (shows_block one (62500 - (block + 1)) (16 * block + 1) store values old mid here full shown new behind)

  pub last_block : length values < 16 → Visits one old (blocks_values (62500 - block) (16 * block + 1) store) mid
  last_block few =
      subst (λ (n : ℕ). Visits one old (blocks_values n (16 * block + 1) store) mid) left (shows_last one (62500 - (block + 1)) (16 * block + 1) store values old mid here few shown)

pub past_blocks : {V : Type 0} (one : V → Value → V → Type 0) (block first : ℕ) (store : StoreMap) (v : V) → 62500 ≤ block → Visits one v (blocks_values (62500 - block) first store) v
past_blocks one block first store v past =
    let none : 62500 - block ≡ 0 = omega arith in
    rw (none, no_block first store) refl

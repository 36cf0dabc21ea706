-- The rows of the tables as finite maps.
use Rattle.std.proofs.Common.{◌≡◌, ◌≢◌, ◌⊎◌, ◌+◌, ◌<◌, ◌≤◌, ℕ, zero, suc, pos, true, List, [], ◌∷◌, filter, Option, Some, None, refl, sym, ap, ap₂, subst, ◌∙◌, inl, inr, arith}
use Rattle.std.specs.Prelude.{IsSome, if◌then◌else◌}
use Rattle.std.proofs.lemmas.Bool.{cases_Bool, cases_eq, eqb-true, ne_eqb, cond-false}
use Rattle.std.specs.BTreeMap.{is_at}
use Rattle.std.specs.Cmp.{unsigned_tied}
use Rattle.std.specs.FinMap.{empty, get}
use Rattle.std.specs.List.{range_with_len}
use Rattle.std.specs.Ordering.{nat_cmp}
use Rattle.sqlite.specs.Order.{Row}
use Rattle.sqlite.specs.Tree.{has_rowid}
use Rattle.press_wire.specs.declared.ballot.Ballot.{Ballot}
use Rattle.press_wire.specs.declared.vote.Vote.{Vote}
use Rattle.press_wire.specs.declared.votes.SlotVote.{SlotVote}
use Rattle.press_wire.specs.Blocks.{block_of, is_first, slots_of}
use Rattle.press_wire.specs.Votes.{vote_in, votes_at}
use Rattle.press_wire.proofs.Blocks.{in_block, of_block, last_block}
use Rattle.press_wire.proofs.Collected.{block_same, block_none, vote_in_block}
use Rattle.press_acceptor.specs.InMemory.{at, with_entry, entries_at, all_slots, map_of}
use Rattle.press_acceptor.specs.StoreMap.{new_store, promise_of, vote_of, block_votes, with_promise, with_round}
use Rattle.press_acceptor.proofs.Maps.{IsSlot, get_at, map_get, map_same, map_set, map_none}
use Rattle.press_store.specs.Saving.{AddsVote}
use Rattle.press_store.specs.Shown.{promise_in, vote_in_rows, promise_over, vote_at, promise_at, round_at, store_of}

-- ---- a number that is no slot has nothing

listed_none : {X : Type 0} (f : ℕ → Option X) (a n q : ℕ) → (q < a) ⊎ (a + n ≤ q) → at (entries_at f (range_with_len a n)) q ≡ None
listed_none f a zero q out = refl
listed_none {X} f a (suc n) q out = go (f a) (listed_none f (a + 1) n q (further out))
  where
    further : (q < a) ⊎ (a + suc n ≤ q) → (q < a + 1) ⊎ (a + 1 + n ≤ q)
    further (inl low) = inl (omega (arith, low))
    further (inr high) = inr (omega (arith, high))

    apart : (q < a) ⊎ (a + suc n ≤ q) → q ≢ a
    apart (inl low) e = omega (arith, low, e)
    apart (inr high) e = omega (arith, high, e)

    go : (o : Option X) → at (entries_at f (range_with_len (a + 1) n)) q ≡ None → at (with_entry a o (entries_at f (range_with_len (a + 1) n))) q ≡ None
    go None rest = rest
    go (Some x) rest = cond-false (is_at (nat_cmp q) a) (Some x) _ (unsigned_tied q a ∙ ne_eqb q a (apart out)) ∙ rest

map_outside : {X : Type 0} (f : ℕ → Option X) (q : ℕ) → (q < 1) ⊎ (1000001 ≤ q) → get (map_of f) q ≡ None
unfolding map_of all_slots
map_outside f q out = get_at (entries_at f (range_with_len 1 1000000)) q ∙ listed_none f 1 1000000 q out

-- ---- blocks

pub first_is : (first : ℕ) → is_first first ≡ true → block_of first ≡ first
first_is first h = eqb-true (block_of first) first h

pub slots_inside : (first slot : ℕ) → IsSlot first → is_first first ≡ true → first ≤ slot → slot < first + 16 → IsSlot slot
slots_inside first slot i e low high =
    let last = last_block first (first_is first e) i.0 i.1 in
    (omega (arith, i.0, low), omega (arith, last, high))

pub block_is_slot : (slot : ℕ) → IsSlot slot → IsSlot (block_of slot)
unfolding block_of
block_is_slot slot i = (omega (arith, i.0), omega (arith, i.1))

-- ---- what is read of the maps

module _ (blocks votes meta : List Row) where
  pub vote_got : (slot : ℕ) → IsSlot slot → vote_of (store_of blocks votes meta) slot ≡ vote_at votes slot
  unfolding store_of
  vote_got slot i = map_get (vote_at votes) slot i

  pub vote_outside : (slot : ℕ) → (slot < 1) ⊎ (1000001 ≤ slot) → vote_of (store_of blocks votes meta) slot ≡ None
  unfolding store_of
  vote_outside slot out = map_outside (vote_at votes) slot out

  promise_got : (slot : ℕ) → IsSlot slot → promise_of (store_of blocks votes meta) slot ≡ promise_at blocks votes slot
  unfolding store_of
  promise_got slot i = map_get (promise_at blocks votes) slot i

  module _ (first : ℕ) (i : IsSlot first) (e : is_first first ≡ true) where
    pub votes_got : block_votes (store_of blocks votes meta) first ≡ votes_at (vote_at votes) (slots_of first)
    votes_got = block_same (vote_of (store_of blocks votes meta)) (vote_at votes) first (λ slot low high. vote_got slot (slots_inside first slot i e low high))

    at_first : promise_at blocks votes first ≡ promise_over (promise_in (filter (has_rowid (pos first)) blocks)) (votes_at (vote_at votes) (slots_of first))
    unfolding promise_at
    at_first = rw e refl

    pub block_promised : promise_of (store_of blocks votes meta) first ≡ promise_over (promise_in (filter (has_rowid (pos first)) blocks)) (block_votes (store_of blocks votes meta) first)
    block_promised = promise_got first i ∙ at_first ∙ ap (promise_over (promise_in (filter (has_rowid (pos first)) blocks))) (sym votes_got)

-- ---- a promise is saved

-- the row is the one with its number, and the rows of other numbers are as they were
pub record IsReplaced (n : ℕ) (row : Row) (old new : List Row) : Type 0 where
  pub here : filter (has_rowid (pos n)) new ≡ row ∷ []
  pub there : (s : ℕ) → (s ≡ n → ⊥) → (s ≡ 0 → ⊥) → filter (has_rowid (pos s)) new ≡ filter (has_rowid (pos s)) old

pub promise_saved : (blocks new votes meta : List Row) (first : ℕ) (row : Row) (ballot : Ballot) → IsSlot first → is_first first ≡ true → promise_in (row ∷ []) ≡ Some ballot → IsReplaced first row blocks new
    → store_of new votes meta ≡ with_promise (store_of blocks votes meta) first ballot
unfolding store_of promise_at
promise_saved blocks new votes meta first row ballot i e shows h =
    let here : promise_at new votes first ≡ Some ballot = at_first new votes meta first i e ∙ ap (λ rows. promise_over (promise_in rows) (votes_at (vote_at votes) (slots_of first))) h.here ∙ ap (λ p. promise_over p (votes_at (vote_at votes) (slots_of first))) shows in
    let there : (q : ℕ) → IsSlot q → q ≢ first → promise_at new votes q ≡ promise_at blocks votes q = λ q s apart.
    ap (λ rows. if is_first q then promise_over (promise_in rows) (votes_at (vote_at votes) (slots_of q)) else None) (h.there q apart (λ zero_is. omega (arith, s.0, zero_is))) in
    ap (λ m. record { promises = m; votes = map_of (vote_at votes); last_round = round_at meta }) (map_set (promise_at blocks votes) (promise_at new votes) first ballot i here there)

-- ---- a vote is saved, in a block that has promised

promises_on : (p : Option Ballot) (was is : List SlotVote) → IsSome (promise_over p was) → (is ≡ [] → ⊥) → promise_over p is ≡ promise_over p was
promises_on (Some b) was is h some = refl
promises_on None [] is h some = absurd (let e = h in cc)
promises_on None (v ∷ was) [] h some = absurd (some refl)
promises_on None (v ∷ was) (w ∷ is) h some = refl

module _ (blocks votes new meta : List Row) (slot : ℕ) (row : Row) (vote : Vote) (i : IsSlot slot) (shows : vote_in_rows (row ∷ []) ≡ Some vote) (h : IsReplaced slot row votes new) where
  here : vote_at new slot ≡ Some vote
  unfolding vote_at
  here = ap vote_in_rows h.here ∙ shows

  there : (q : ℕ) → IsSlot q → q ≢ slot → vote_at new q ≡ vote_at votes q
  unfolding vote_at
  there q s apart = ap vote_in_rows (h.there q apart (λ zero_is. omega (arith, s.0, zero_is)))

  has_vote : (block : ℕ) → block ≤ slot → slot < block + 16 → votes_at (vote_at new) (slots_of block) ≡ [] → ⊥
  has_vote block low high none =
      let found : vote_in (votes_at (vote_at new) (slots_of block)) slot ≡ Some vote = vote_in_block (vote_at new) block slot low high ∙ here in
      let bad : None ≡ Some vote = sym (ap (λ vs. vote_in vs slot) none) ∙ found in
      cc

  block_stays : IsSome (promise_at blocks votes (block_of slot)) → (q : ℕ) → IsSlot q → promise_at blocks new q ≡ promise_at blocks votes q
  unfolding promise_at
  block_stays promised q s = elim (cases_Bool (is_first q)) [
    | inr other ↦ rw other refl
    | inl first ↦ elim (cases_eq (block_of slot) q) [
      | inl same ↦
          let inside = in_block slot q same in
          let p = promise_in (filter (has_rowid (pos q)) blocks) in
          let old : IsSome (promise_over p (votes_at (vote_at votes) (slots_of q))) = subst IsSome (rw first refl) (subst (λ b. IsSome (promise_at blocks votes b)) same promised) in
          rw first (promises_on p (votes_at (vote_at votes) (slots_of q)) (votes_at (vote_at new) (slots_of q)) old (has_vote q inside.0 inside.1))
      | inr apart ↦
          let alike : votes_at (vote_at new) (slots_of q) ≡ votes_at (vote_at votes) (slots_of q) = block_same (vote_at new) (vote_at votes) q (λ t low high.
          there t (slots_inside q t s first low high) (λ e. apart (ap block_of (sym e) ∙ of_block q t (first_is q first) s.0 low high))) in
          ap (λ vs. if is_first q then promise_over (promise_in (filter (has_rowid (pos q)) blocks)) vs else None) alike
    ]
  ]

  pub vote_saved : AddsVote slot vote (store_of blocks votes meta) (store_of blocks new meta)
  unfolding store_of
  vote_saved promised =
      let some : IsSome (promise_at blocks votes (block_of slot)) = subst IsSome (map_get (promise_at blocks votes) (block_of slot) (block_is_slot slot i)) promised in
      ap₂ (λ p v. record { promises = p; votes = v; last_round = round_at meta }) (map_same (promise_at blocks votes) (promise_at blocks new) (block_stays some)) (map_set (vote_at votes) (vote_at new) slot vote i here there)

-- ---- a round is saved, and nothing is

pub round_saved : (blocks votes meta new : List Row) (round : ℕ) → round_at new ≡ round → store_of blocks votes new ≡ with_round (store_of blocks votes meta) round
unfolding store_of
round_saved blocks votes meta new round is = ap (λ n. record { promises = map_of (promise_at blocks votes); votes = map_of (vote_at votes); last_round = n }) is

pub no_vote_at : (q : ℕ) → vote_at [] q ≡ None
unfolding vote_at
no_vote_at q = refl

pub none_promised : (q : ℕ) → promise_at [] [] q ≡ None
unfolding promise_at
none_promised q = elim (cases_Bool (is_first q)) [
  | inr other ↦ rw other refl
  | inl first ↦ rw first (ap (promise_over None) (block_none (vote_at []) q (λ slot low high. no_vote_at slot)))
]

pub nothing_saved : (meta : List Row) → round_at meta ≡ 0 → store_of [] [] meta ≡ new_store
unfolding store_of
nothing_saved meta none =
    let promises : map_of (promise_at [] []) ≡ empty = map_same (λ _. None) (promise_at [] []) (λ q s. none_promised q) ∙ map_none in
    let votes : map_of (vote_at []) ≡ empty = map_same (λ _. None) (vote_at []) (λ q s. no_vote_at q) ∙ map_none in
    ap₂ (λ p v. record { promises = p; votes = v; last_round = round_at meta }) promises votes ∙ ap (λ n. record { promises = empty; votes = empty; last_round = n }) none

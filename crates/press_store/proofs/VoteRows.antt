-- What the query on the votes of a block shows.
use Rattle.std.proofs.Common.{◌≡◌, ◌⊎◌, ◌≤◌, ◌<◌, ◌+◌, ℕ, pos, negsuc, List, [], ◌∷◌, map, filter, true, false, Bool, Option, Some, None, IfSome, refl, sym, ap, subst, ◌∙◌, inl, inr, arith}
use Rattle.std.specs.Prelude.{◌&&◌, get_or, nat_le, option_map, unwrap_or, if◌then◌else◌}
use Rattle.std.proofs.lemmas.Bool.{cases_eq, leb-true, eq-eqb, ne_eqb, cond-true, cond-false, lt-ltb}
use Rattle.std.specs.Ordering.{is_eq, is_ge, is_le, ordering_reverse}
use Rattle.std.specs.declared.cmp.Ordering.TheVariants.{Less}
use Rattle.std.specs.List.Sorted.{IsPermutation}
use Rattle.std.proofs.lemmas.List.Sorted.{length_permutation}
use Rattle.sqlite.specs.declared.types.Value.{Value}
use Rattle.sqlite.specs.declared.types.Value.TheVariants.{Null, Int, Real, Text, Blob}
use Rattle.sqlite.specs.Order.{Row, column, value_cmp}
use Rattle.sqlite.specs.Tree.{has_rowid}
use Rattle.sqlite.specs.Ops.{binary, is_true}
use Rattle.sqlite.specs.Term.{Term, col, op2}
use Rattle.sqlite.specs.Collation.TheVariants.{Binary}
use Rattle.sqlite_sql.specs.declared.ops.BinaryOp.TheVariants as by
use Rattle.sqlite_sql.specs.declared.ops.CompareOp.TheVariants.{Ge, Le}
use Rattle.sqlite.specs.Effect.{Database, Answers}
use Rattle.sqlite.proofs.Callers.{one_permutation}
use Rattle.sqlite_value.proofs.OrderLemmas.{value_cmp-Null, value_cmp-Int, value_cmp_total}
use Rattle.sqlite_trees.proofs.ListLemmas.{IsPermutation-filter, filter-map, filter-filter}
use Rattle.press_wire.specs.declared.vote.Vote.{Vote}
use Rattle.press_wire.specs.declared.votes.SlotVote.{SlotVote}
use Rattle.press_wire.specs.Blocks.{is_first}
use Rattle.press_wire.specs.Votes.{vote_in as vote_for, IsWithin}
use Rattle.press_wire.proofs.Collected.{block_collected, block_same}
use Rattle.press_acceptor.specs.StoreMap.{block_votes}
use Rattle.press_acceptor.proofs.Maps.{IsSlot}
use Rattle.press_store.specs.Tables.{Layout, vote_tree}
use Rattle.press_store.specs.Shown.{number_in, ballot_in, vote_in, vote_in_rows, damaged_vote, vote_at, slot_vote_of, shown_vote, before, shown_votes, block_rows, vote_rows, meta_rows}
use Rattle.press_store.specs.Stands.{store_in}
use Rattle.press_store.specs.Attempt.{AreTables}
use Rattle.press_store.proofs.Maps.{votes_got}
use Rattle.press_store.proofs.Put.{is_equal, same_int, same_pos, not_same}
use Rattle.press_store.proofs.Queries.{back, none_of, passes, shown_rows, plain_vote}
use Rattle.press_store.proofs.Standing.{stand}
use Rattle.press_store.proofs.Versions.{as_newer}
use Rattle.press_store.proofs.Texts.{votes_query}

-- ---- what one row shows

abbrev vote_of_row : Row → Option Vote
vote_of_row v = vote_in (ballot_in (column v 1) (column v 2)) (column v 3)

-- it shows a vote for the slot that is its number
pub record Shows (least last : ℕ) (v : Row) (s : SlotVote) : Type 0 where
  pub number : column v 0 ≡ Int (pos s.slot)
  pub low : least ≤ s.slot
  pub high : s.slot ≤ last
  pub vote : vote_of_row v ≡ Some s.vote

numbered : (least last : ℕ) (v : Value) (n : ℕ) → number_in least last v ≡ Some n → (v ≡ Int (pos n)) × (least ≤ n) × (n ≤ last)
numbered least last (Int (pos m)) n h = go (nat_le least m) refl (nat_le m last) refl h
  where
    go : (a : Bool) → nat_le least m ≡ a → (b : Bool) → nat_le m last ≡ b → (if a && b then Some m else None) ≡ Some n → (Int (pos m) ≡ Int (pos n)) × (least ≤ n) × (n ≤ last)
    go true e true f h = let same : m ≡ n = cc in (ap (λ k. Int (pos k)) same, subst (λ k. least ≤ k) same (leb-true least m e), subst (λ k. k ≤ last) same (leb-true m last f))
    go true e false f h = absurd (let x = h in cc)
    go false e b f h = absurd (let x = h in cc)
numbered least last (Int (negsuc m)) n h = absurd (let x = h in cc)
numbered least last Null n h = absurd (let x = h in cc)
numbered least last (Real x) n h = absurd (let y = h in cc)
numbered least last (Text t) n h = absurd (let x = h in cc)
numbered least last (Blob b) n h = absurd (let x = h in cc)

row_shows : (least last : ℕ) (v : Row) (s : SlotVote) → shown_vote least last v ≡ Some s → Shows least last v s
row_shows least last v s h = go (number_in least last (column v 0)) refl (vote_of_row v) refl h
  where
    go : (o : Option ℕ) → number_in least last (column v 0) ≡ o → (w : Option Vote) → vote_of_row v ≡ w → slot_vote_of o w ≡ Some s → Shows least last v s
    go None e w f h = absurd (let x = h in cc)
    go (Some n) e None f h = absurd (let x = h in cc)
    go (Some n) e (Some w) f h =
        let same : record { slot = n; vote = w } ≡ s = cc in
        let (number, low, high) = numbered least last (column v 0) n e in
        subst (Shows least last v) same (record { number = number; low = low; high = high; vote = f })

-- ---- what rows show

-- there is no row for the slot and no vote, or one row with its vote
abbrev Tells : ℕ → List Row → List SlotVote → Type 0
Tells slot rows votes =
    ((filter (has_rowid (pos slot)) rows ≡ []) × (vote_for votes slot ≡ None))
    ⊎ ((v : Row) × (x : Vote) × (filter (has_rowid (pos slot)) rows ≡ v ∷ []) × (vote_of_row v ≡ Some x) × (vote_for votes slot ≡ Some x))

pub record Reads (least last : ℕ) (rows : List Row) (votes : List SlotVote) : Type 0 where
  pub within : IsWithin least (last + 1) votes
  pub tells : (slot : ℕ) → Tells slot rows votes

none_before : (votes : List SlotVote) (first last slot : ℕ) → slot < first → IsWithin first last votes → vote_for votes slot ≡ None
none_before [] first last slot h w = refl
none_before (v ∷ votes) first last slot h w = cond-false _ (Some v.vote) (vote_for votes slot) (ne_eqb v.slot slot (λ e. omega (arith, e, h, w.0))) ∙ none_before votes (v.slot + 1) last slot (omega (arith, h, w.0)) w.2

module _ (least last : ℕ) (v : Row) (rows : List Row) (s : SlotVote) (votes : List SlotVote) (h : Shows least last v s) (r : Reads (s.slot + 1) last rows votes) where
  own : (slot : ℕ) → s.slot ≡ slot → Tells slot rows votes → Tells slot (v ∷ rows) (s ∷ votes)
  own slot same (inl none) =
      let here : has_rowid (pos slot) v ≡ true = rw (h.number, same) (same_int (pos slot)) in
      inr (v, s.vote, rw (here, none.0) refl, h.vote, cond-true _ (Some s.vote) (vote_for votes slot) (eq-eqb s.slot slot same))
  own slot same (inr (w, x, _, _, got)) =
      let none = none_before votes (s.slot + 1) (last + 1) slot (omega (arith, same)) r.within in
      absurd (let bad : None ≡ Some x = sym none ∙ got in cc)

  other : (slot : ℕ) → (s.slot ≡ slot → ⊥) → Tells slot rows votes → Tells slot (v ∷ rows) (s ∷ votes)
  other slot apart t =
      let off : has_rowid (pos slot) v ≡ false = rw h.number (not_same (pos s.slot) (pos slot) (λ e. apart (same_pos s.slot slot e))) in
      let past : vote_for (s ∷ votes) slot ≡ vote_for votes slot = cond-false _ (Some s.vote) (vote_for votes slot) (ne_eqb s.slot slot apart) in
      elim t [
        | inl none ↦ inl (rw off none.0, past ∙ none.1)
        | inr some ↦ inr (some.0, some.1, rw off some.2, some.3, past ∙ some.4)
      ]

  one_more : Reads least last (v ∷ rows) (s ∷ votes)
  one_more = record {
    within = (h.low, omega (arith, h.high), r.within);
    tells = λ slot. elim (cases_eq s.slot slot) [ inl same ↦ own slot same (r.tells slot) | inr apart ↦ other slot apart (r.tells slot) ];
  }

read : (least last : ℕ) (rows : List Row) (votes : List SlotVote) → shown_votes least last rows ≡ Some votes → Reads least last rows votes
unfolding shown_votes
read least last [] votes h = subst (Reads least last []) (let same : [] ≡ votes = cc in same) (record { within = tt; tells = λ slot. inl (refl, refl) })
read least last (v ∷ rows) votes h = go (λ s more f. read (s.slot + 1) last rows more f) (shown_vote least last v) refl h
  where
    rest : (s : SlotVote) → Shows least last v s → (o : Option (List SlotVote)) → shown_votes (s.slot + 1) last rows ≡ o → ((more : List SlotVote) → shown_votes (s.slot + 1) last rows ≡ Some more → Reads (s.slot + 1) last rows more)
        → option_map (λ more. s ∷ more) o ≡ Some votes → Reads least last (v ∷ rows) votes
    rest s shows None e ih h = absurd (let x = h in cc)
    rest s shows (Some more) e ih h =
        let same : s ∷ more ≡ votes = cc in
        subst (Reads least last (v ∷ rows)) same (one_more least last v rows s more shows (ih more e))

    go : ((s : SlotVote) (more : List SlotVote) → shown_votes (s.slot + 1) last rows ≡ Some more → Reads (s.slot + 1) last rows more) → (o : Option SlotVote) → shown_vote least last v ≡ o → before o (λ s. shown_votes (s.slot + 1) last rows) ≡ Some votes → Reads least last (v ∷ rows) votes
    go ih None e h = absurd (let x = h in cc)
    go ih (Some s) e h = rest s (row_shows least last v s e) (shown_votes (s.slot + 1) last rows) refl (ih s) h

-- ---- which rows pass

-- SQL's >= and <= of a value and a number; the second of one that equals a number, so that it is not NULL
at_least : (v : Value) (n : ℕ) → is_true (binary (by.Compare Ge Binary) v (Int (pos n))) ≡ is_ge (value_cmp v (Int (pos n)))
unfolding binary
at_least Null n = rw (value_cmp-Null (Int (pos n)))
at_least (Int m) n = back _
at_least (Real x) n = back _
at_least (Text t) n = back _
at_least (Blob b) n = back _

at_most : (v : Value) (n slot : ℕ) → is_eq (value_cmp v (Int (pos slot))) ≡ true → is_true (binary (by.Compare Le Binary) v (Int (pos n))) ≡ is_le (value_cmp v (Int (pos n)))
unfolding binary
at_most Null n slot own = absurd (let e = rw (value_cmp-Null (Int (pos slot))) at own in cc)
at_most (Int m) n slot own = back _
at_most (Real x) n slot own = back _
at_most (Text t) n slot own = back _
at_most (Blob b) n slot own = back _

below : (m n : ℕ) → m < n → value_cmp (Int (pos m)) (Int (pos n)) ≡ Less
below m n less = rw (value_cmp-Int, lt-ltb m n less)

not_less : (m n : ℕ) → m ≤ n → is_le (value_cmp (Int (pos m)) (Int (pos n))) ≡ true
not_less m n low = elim (cases_eq m n) [
  | inl same ↦ ap is_le (ap (λ k. value_cmp (Int (pos k)) (Int (pos n))) same ∙ is_equal _ (same_int (pos n)))
  | inr apart ↦ ap is_le (below m n (omega (arith, low, apart)))
]

not_more : (m n : ℕ) → n ≤ m → is_ge (value_cmp (Int (pos m)) (Int (pos n))) ≡ true
not_more m n high = elim (cases_eq m n) [
  | inl same ↦ ap is_ge (ap (λ k. value_cmp (Int (pos k)) (Int (pos n))) same ∙ is_equal _ (same_int (pos n)))
  | inr apart ↦ ap is_ge (value_cmp_total.antisymm (Int (pos m)) (Int (pos n)) ∙ ap ordering_reverse (below n m (omega (arith, high, apart))))
]

abbrev range_terms : List Term
range_terms = op2 (by.Compare Ge Binary) (col 1 0) (col 0 0) ∷ op2 (by.Compare Le Binary) (col 1 0) (col 0 1) ∷ []

abbrev range_params : (first last : ℕ) → Row
range_params first last = Int (pos first) ∷ Int (pos last) ∷ []

-- a row of a slot in the range passes
in_range : (first last slot : ℕ) (r : Row) → first ≤ slot → slot ≤ last → has_rowid (pos slot) r ≡ true → passes range_terms (range_params first last) r ≡ true
in_range first last slot r low high own =
    let is = is_equal _ own in
    let one : is_true (binary (by.Compare Ge Binary) (column r 0) (Int (pos first))) ≡ true = at_least (column r 0) first ∙ ap is_ge (value_cmp_total.congr (column r 0) (Int (pos slot)) (Int (pos first)) is) ∙ not_more slot first low in
    let two : is_true (binary (by.Compare Le Binary) (column r 0) (Int (pos last))) ≡ true = at_most (column r 0) last slot own ∙ ap is_le (value_cmp_total.congr (column r 0) (Int (pos slot)) (Int (pos last)) is) ∙ not_less slot last high in
    rw (one, two)

-- ---- from the rows that are shown to those of the table

abbrev project : Row → Row
project r = column r 0 ∷ column r 2 ∷ column r 3 ∷ column r 4 ∷ []

one_voted : (xs : List Row) (v : Row) (x : Vote) → IsPermutation (map project xs) (v ∷ []) → vote_of_row v ≡ Some x → vote_in_rows xs ≡ Some x
one_voted [] v x h is = absurd (omega (arith, length_permutation _ _ h))
one_voted (r ∷ []) v x h is =
    let same : v ≡ project r = ap (λ rows. get_or rows 0 []) (one_permutation (project r) (v ∷ []) h) in
    ap (λ o. Some (unwrap_or o damaged_vote)) (ap vote_of_row (sym same) ∙ is)
one_voted (r ∷ s ∷ xs) v x h is = absurd (omega (arith, length_permutation _ _ h))

module _ (first last : ℕ) (table rows : List Row) (h : IsPermutation (map project (filter (passes range_terms (range_params first last)) table)) rows) where
  -- those of one slot
  at_slot : (slot : ℕ) → first ≤ slot → slot ≤ last → IsPermutation (map project (filter (has_rowid (pos slot)) table)) (filter (has_rowid (pos slot)) rows)
  at_slot slot low high =
      let p = passes range_terms (range_params first last) in
      let own = has_rowid (pos slot) in
      subst (λ xs. IsPermutation xs (filter own rows))
      (filter-map own project (filter p table) ∙ ap (map project) (filter-filter own p (λ r is. in_range first last slot r low high is) table))
      (IsPermutation-filter own (map project (filter p table)) rows h)

  voted : (votes : List SlotVote) → Reads first last rows votes → (slot : ℕ) → first ≤ slot → slot ≤ last → vote_for votes slot ≡ vote_at table slot
  unfolding vote_at
  voted votes r slot low high = elim (r.tells slot) [
    | inl none ↦ none.1 ∙ sym (ap vote_in_rows (none_of project (filter (has_rowid (pos slot)) table) (subst (IsPermutation (map project (filter (has_rowid (pos slot)) table))) none.0 (at_slot slot low high))))
    | inr some ↦ some.4 ∙ sym (one_voted (filter (has_rowid (pos slot)) table) some.0 some.1 (subst (IsPermutation (map project (filter (has_rowid (pos slot)) table))) some.2 (at_slot slot low high)) some.3)
  ]

if_some : {A : Type 0} {P : A → Type 0} (o : Option A) → ((a : A) → o ≡ Some a → P a) → IfSome o P
if_some None so = tt
if_some (Some a) so = so a refl

pub votes_shown : (l : Layout) (db : Database) (first : ℕ) (rows : List Row) → IsSlot first → is_first first ≡ true → AreTables l db → Answers db (record { lets = []; body = votes_query l }) (range_params first (first + 15)) rows
    → IfSome (shown_votes first (first + 15) rows) (λ votes. votes ≡ block_votes (store_in db.trees) first)
votes_shown l db first rows i e has h =
    let table = vote_rows db.trees in
    let tree = vote_tree l in
    let terms = col 1 0 ∷ col 1 2 ∷ col 1 3 ∷ col 1 4 ∷ [] in
    let found = shown_rows tree range_terms terms _ db (range_params first (first + 15)) rows (plain_vote l db.trees) h in
    let listed : IsPermutation (map project (filter (passes range_terms (range_params first (first + 15))) table)) rows =
    subst (λ xs. IsPermutation (map project (filter (passes range_terms (range_params first (first + 15))) xs)) rows) (sym (stand l db.trees has.listed).votes) found in
    subst (λ store. IfSome (shown_votes first (first + 15) rows) (λ votes. votes ≡ block_votes store first)) (as_newer db.trees has.emptied)
    (if_some (shown_votes first (first + 15) rows) (λ votes is.
    let r = read first (first + 15) rows votes is in
    let within : IsWithin first (first + 16) votes = subst (λ k. IsWithin first k votes) (omega arith) r.within in
    sym (block_collected votes first within)
    ∙ block_same (vote_for votes) (vote_at table) first (λ slot low high. voted first (first + 15) table rows listed votes r slot low (omega (arith, high)))
    ∙ sym (votes_got (block_rows db.trees) table (meta_rows db.trees) first i e)))

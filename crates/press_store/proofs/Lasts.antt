-- What the query on the last vote finds.
use Rattle.std.proofs.Common.{◌≡◌, ◌⊎◌, ◌<◌, ◌≤◌, ℕ, pos, negsuc, List, [], ◌∷◌, map, filter, length, true, false, Bool, None, Some, IfSome, refl, sym, ap, subst, ◌∙◌, inl, inr, arith}
use Rattle.std.specs.Prelude.{◌&&◌, IsSome, nat_le, option_map}
use Rattle.std.proofs.lemmas.Bool.{cases_Bool, leb-true, lt-ltb}
use Rattle.std.proofs.lemmas.Bool.Decides.{leb_tells}
use Rattle.std.specs.Cmp.{alike_right}
use Rattle.std.specs.List.{All, AllByRecursion}
use Rattle.std.specs.List.Sorted.{IsPermutation, IsSorted}
use Rattle.std.proofs.lemmas.List.Elements.{All-from_recursion, recursion_from_All, All-head}
use Rattle.std.proofs.lemmas.List.Sorted.{IsPermutation-sym, All-permutation, length_permutation, ranks_by, sorted_far}
use Rattle.std.specs.Ordering.{is_lt}
use Rattle.std.specs.declared.cmp.Ordering.TheVariants.{Less}
use Rattle.sqlite.specs.declared.types.Value.{Value}
use Rattle.sqlite.specs.declared.types.Value.TheVariants.{Null, Int, Text, Real, Blob}
use Rattle.sqlite.specs.Order.{Row, column, value_cmp}
use Rattle.sqlite.specs.Tree.{has_rowid}
use Rattle.sqlite.specs.Query.{Query, IsAnswer, Output, output_cmp, page}
use Rattle.sqlite.specs.Program.{overlay}
use Rattle.sqlite.specs.Effect.{Database, Answers}
use Rattle.sqlite_rules.specs.Lists.{Has}
use Rattle.sqlite_value.proofs.OrderLemmas.{value_cmp-Int, value_cmp_total, then-Equal}
use Rattle.sqlite_sql.proofs.QueryLemmas.{output_cmp_total}
use Rattle.press_acceptor.specs.StoreMap.{vote_of}
use Rattle.press_acceptor.proofs.Maps.{IsSlot}
use Rattle.press_wire.specs.Ranges.{last_slot}
use Rattle.press_store.specs.Tables.{Layout, vote_tree}
use Rattle.press_store.specs.Shown.{number_in, vote_in_rows, vote_at, store_of, block_rows, vote_rows, meta_rows}
use Rattle.press_store.specs.Stands.{store_in}
use Rattle.press_store.specs.Attempt.{AreTables}
use Rattle.press_store.specs.Voted.{IsLastVote, last_in}
use Rattle.press_store.proofs.Maps.{vote_got, vote_outside}
use Rattle.press_store.proofs.Put.{is_equal, same_int}
use Rattle.press_store.proofs.Queries.{outputs, all_pass, plain_vote}
use Rattle.press_store.proofs.Standing.{stand}
use Rattle.press_store.proofs.Versions.{as_newer}
use Rattle.press_store.proofs.Texts.{last_vote_query}

-- ---- the last of some rows

abbrev shown_row : Row → Output
shown_row r = (column r 0 ∷ [], column r 0 ∷ [])

abbrev IsOutputOf : List Row → Output → Type 0
IsOutputOf table o = (r : Row) × Has table r × (o ≡ shown_row r)

outputs_of : (table rows : List Row) → ((r : Row) → Has rows r → Has table r) → AllByRecursion (IsOutputOf table) (map shown_row rows)
outputs_of table [] within = tt
outputs_of table (r ∷ rows) within = ((r, within r (inl refl), refl), outputs_of table rows (λ s has. within s (inr has)))

-- no row stands behind the value
abbrev NoneBehind : Value → List Row → Type 0
NoneBehind last rows = AllByRecursion (λ r. is_lt (value_cmp last (column r 0)) ≡ false) rows

-- no row, or the number of one behind which no other stands
abbrev IsLastOf : List Row → List Row → Type 0
IsLastOf rows [] = rows ≡ []
IsLastOf rows (shown ∷ more) = (r : Row) × Has rows r × (shown ∷ more ≡ (column r 0 ∷ []) ∷ []) × NoneBehind (column r 0) rows

nothing : (rows : List Row) → 0 ≡ length (map shown_row rows) → rows ≡ []
nothing [] none = refl
nothing (r ∷ rows) none = absurd (omega (arith, none))

module _ (tree : ℕ) where
  abbrev query : Query
  query = last_vote_query tree

  abbrev IsUpTo : Output → Output → Type 0
  IsUpTo last o = is_lt (output_cmp query o last) ≡ false

  none_behind : (last : Value) (rows : List Row) → AllByRecursion (IsUpTo (last ∷ [], last ∷ [])) (map shown_row rows) → NoneBehind last rows
  none_behind last [] h = tt
  none_behind last (r ∷ rows) h = (ap is_lt (sym (then-Equal (value_cmp last (column r 0)))) ∙ h.0, none_behind last rows h.1)

  up_to_first : (o : Output) (more : List Output) → IsSorted (output_cmp query) (o ∷ more) → All (IsUpTo o) (o ∷ more)
  up_to_first o more up i d below = sorted_far (λ x y. is_lt (output_cmp query x y)) (ranks_by (output_cmp_total query) (λ x. x)) (o ∷ more) up 0 i d (omega arith) below

  paged : (found rows : List Row) (ordered : List Output) → IsPermutation (map shown_row found) ordered → IsSorted (output_cmp query) ordered → rows ≡ page query [] (map (λ o. o.1) ordered) → IsLastOf found rows
  paged found rows [] same up shown = subst (IsLastOf found) (sym shown) (nothing found (length_permutation _ _ same))
  paged found rows (o ∷ more) same up shown =
      let one : IsOutputOf found o = All-head (IsOutputOf found) o more (All-permutation (IsOutputOf found) (map shown_row found) (o ∷ more) same (All-from_recursion (IsOutputOf found) _ (outputs_of found found (λ r has. has)))) in
      let all = All-permutation (IsUpTo o) (o ∷ more) (map shown_row found) (IsPermutation-sym _ _ same) (up_to_first o more up) in
      let behind = subst (λ (last : Output). AllByRecursion (IsUpTo last) (map shown_row found)) one.2 (recursion_from_All (IsUpTo o) _ all) in
      subst (IsLastOf found) (sym (shown ∙ ap (λ (last : Output). last.1 ∷ []) one.2)) (one.0, one.1, refl, none_behind (column one.0 0) found behind)

  last_found : (db : Database) (rows : List Row) → overlay db.trees [] tree ≡ db.trees tree → Answers db (record { lets = []; body = query }) [] rows → IsLastOf (db.trees tree) rows
  last_found db rows plain h =
      let trees = overlay db.trees [] in
      let a : IsAnswer query trees [] rows = h.answer Null in
      let out = outputs query trees tree [] rows refl refl refl a in
      paged (db.trees tree) rows a.ordered (subst (λ xs. IsPermutation (map shown_row xs) a.ordered) (all_pass [] (trees tree) ∙ plain) out) a.sorted a.shown

-- ---- what it says of the slots

below : (last slot : ℕ) → last < slot → value_cmp (Int (pos last)) (Int (pos slot)) ≡ Less
below last slot less = rw (value_cmp-Int, lt-ltb last slot less)

no_rowid : (last slot : ℕ) (r : Row) → last < slot → is_lt (value_cmp (Int (pos last)) (column r 0)) ≡ false → has_rowid (pos slot) r ≡ false
no_rowid last slot r less h = elim (cases_Bool (has_rowid (pos slot) r)) [
  | inl same ↦
      let tied = alike_right value_cmp_total (column r 0) (Int (pos slot)) (Int (pos last)) (is_equal _ same) in
      absurd (let e = rw (tied, below last slot less) at h in cc)
  | inr other ↦ other
]

none_behind_slot : (last slot : ℕ) (rows : List Row) → last < slot → NoneBehind (Int (pos last)) rows → filter (has_rowid (pos slot)) rows ≡ []
none_behind_slot last slot [] less h = refl
none_behind_slot last slot (r ∷ rows) less h = rw (no_rowid last slot r less h.0, none_behind_slot last slot rows less h.1)

some_filtered : (p : Row → Bool) (rows : List Row) (r : Row) → Has rows r → p r ≡ true → filter p rows ≡ [] → ⊥
some_filtered p [] r has on none = has
some_filtered p (s ∷ rows) r (inl is) on none = absurd (let e = rw (ap p (sym is) ∙ on) at none in cc)
some_filtered p (s ∷ rows) r (inr has) on none = elim (cases_Bool (p s)) [
  | inl taken ↦ absurd (let e = rw taken at none in cc)
  | inr off ↦ some_filtered p rows r has on (rw off at none)
]

voted_some : (rows : List Row) → (rows ≡ [] → ⊥) → IsSome (vote_in_rows rows)
voted_some [] some = absurd (some refl)
voted_some (r ∷ []) some = refl
voted_some (r ∷ s ∷ rows) some = refl

in_slots : (slot : ℕ) → IsSlot slot ⊎ ((slot < 1) ⊎ (1000001 ≤ slot))
in_slots slot = elim (leb_tells 1 slot) [
  | inr low ↦ inr (inl (omega (arith, low.1)))
  | inl some ↦ elim (leb_tells slot last_slot) [ inl high ↦ inl (some.1, high.1) | inr past ↦ inr (inr (omega (arith, past.1))) ]
]

module _ (blocks votes meta : List Row) where
  slot_without : (slot : ℕ) → filter (has_rowid (pos slot)) votes ≡ [] → vote_of (store_of blocks votes meta) slot ≡ None
  unfolding vote_at
  slot_without slot none = elim (in_slots slot) [
    | inl is ↦ vote_got blocks votes meta slot is ∙ ap vote_in_rows none
    | inr out ↦ vote_outside blocks votes meta slot out
  ]

  slot_with : (slot : ℕ) (r : Row) → IsSlot slot → Has votes r → column r 0 ≡ Int (pos slot) → IsSome (vote_of (store_of blocks votes meta) slot)
  unfolding vote_at
  slot_with slot r is has at =
      let own : has_rowid (pos slot) r ≡ true = rw at (same_int (pos slot)) in
      subst IsSome (sym (vote_got blocks votes meta slot is)) (voted_some (filter (has_rowid (pos slot)) votes) (some_filtered (has_rowid (pos slot)) votes r has own))

  up_to : (last : Value) (r : Row) → Has votes r → column r 0 ≡ last → NoneBehind last votes → IfSome (option_map Some (number_in 1 last_slot last)) (IsLastVote (store_of blocks votes meta))
  up_to (Int (pos n)) r has at h = elim (cases_Bool (nat_le 1 n && nat_le n last_slot)) [
    | inl slot ↦ rw slot (slot_with n r (within slot) has at, λ s less. slot_without s (none_behind_slot n s votes less h))
    | inr other ↦ rw other tt
  ]
    where
      within : (nat_le 1 n && nat_le n last_slot) ≡ true → IsSlot n
      within e = go (nat_le 1 n) refl (nat_le n last_slot) refl e
        where
          go : (a : Bool) → nat_le 1 n ≡ a → (b : Bool) → nat_le n last_slot ≡ b → (a && b) ≡ true → IsSlot n
          go true a true b e = (leb-true 1 n a, leb-true n last_slot b)
          go true a false b e = absurd (let x = e in cc)
          go false a b f e = absurd (let x = e in cc)
  up_to (Int (negsuc n)) r has at h = tt
  up_to Null r has at h = tt
  up_to (Real x) r has at h = tt
  up_to (Text t) r has at h = tt
  up_to (Blob b) r has at h = tt

  last_of : (rows : List Row) → IsLastOf votes rows → IfSome (last_in rows) (IsLastVote (store_of blocks votes meta))
  last_of [] none = (tt, λ slot. slot_without slot (ap (filter (has_rowid (pos slot))) none))
  last_of (shown ∷ more) h = subst (λ rows. IfSome (last_in rows) (IsLastVote (store_of blocks votes meta))) (sym h.2) (up_to (column h.0 0) h.0 h.1 refl h.3)

-- the slot that the query shows has a vote, and behind it no slot has one
pub last_shown : (l : Layout) (db : Database) (rows : List Row) → AreTables l db → Answers db (record { lets = []; body = last_vote_query (vote_tree l) }) [] rows → IfSome (last_in rows) (IsLastVote (store_in db.trees))
last_shown l db rows has h =
    let found = last_found (vote_tree l) db rows (plain_vote l db.trees) h in
    subst (λ store. IfSome (last_in rows) (IsLastVote store)) (as_newer db.trees has.emptied)
    (last_of (block_rows db.trees) (vote_rows db.trees) (meta_rows db.trees) rows (subst (λ table. IsLastOf table rows) (sym (stand l db.trees has.listed).votes) found))

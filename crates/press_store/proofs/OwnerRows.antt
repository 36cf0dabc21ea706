-- What the statement that writes an owner makes of the tables, and what the query on one of its rows shows.
use Rattle.std.proofs.Common.{◌≡◌, ◌≤◌, ◌<◌, ◌^◌, ◌-◌, ℕ, ℤ, pos, negsuc, List, [], ◌∷◌, map, codes, filter, true, false, Bool, not, Option, Some, None, Ok, refl, sym, ap, ap₂, subst, ◌∙◌, inl, inr, arith}
use Rattle.std.specs.Prelude.{◌&&◌, nat_lt, option_map, unwrap_or}
use Rattle.std.proofs.lemmas.Bool.{cases_Bool, le-leb}
use Rattle.std.proofs.Math.Dec.{leb-zero}
use Rattle.std.proofs.lemmas.Cmp.{tied_itself}
use Rattle.std.specs.List.Sorted.{IsPermutation}
use Rattle.std.proofs.lemmas.List.Sorted.{IsPermutation-map, length_permutation}
use Rattle.std.specs.Ordering.{is_eq}
use mathlib.Core.Path.{fun_ext}
use Rattle.sqlite.specs.declared.types.Value.{Value}
use Rattle.sqlite.specs.declared.types.Value.TheVariants.{Null, Int, Text}
use Rattle.sqlite.specs.declared.run.Mode.{Mode}
use Rattle.sqlite.specs.Order.{Row, column}
use Rattle.sqlite.specs.Tree.{Trees, put_row}
use Rattle.sqlite.specs.Term.{col}
use Rattle.sqlite.specs.Does.{Tally, Does}
use Rattle.sqlite.specs.Rows.{Written, Inserts}
use Rattle.sqlite.specs.Source.TheVariants.{Values}
use Rattle.sqlite.specs.Effect.{Database, Answers}
use Rattle.sqlite.specs.Edit.{Edit, edit_of, edited, next_rowid, put_all, are_fresh, is_taken, taken_by, Applies}
use Rattle.sqlite.specs.Rowids.TheVariants.{Chosen}
use Rattle.sqlite.proofs.Callers.{one_permutation, one_step}
use Rattle.sqlite_value.proofs.OrderLemmas.{value_cmp-Text, value_cmp_total}
use Rattle.sqlite_trees.proofs.ListLemmas.{map-map}
use Rattle.sqlite_trees.specs.Objects.{catalog_tree}
use Rattle.sqlite_catalog.specs.Listing.{Lists}
use Rattle.press_acceptor.specs.InMemory.{map_of}
use Rattle.press_store.specs.declared.owner.Owner.{Owner}
use Rattle.press_store.specs.Tables.{Layout, schema_of, meta_on, meta_tree}
use Rattle.press_store.specs.Shown.{block_rows, vote_rows, promise_at, vote_at, is_last_round, is_version, meta_rows, number_in, round_at, round_in, damaged_round, store_of, IsKept, IsOurVersion}
use Rattle.press_store.specs.Stands.{store_in}
use Rattle.press_store.specs.Attempt.{AreTables}
use Rattle.press_store.specs.Moving.{is_named}
use Rattle.press_store.specs.Owned.{signed_number, unsigned_number, int_in, entry_of, entry_in, owner_from, owner_by, owner_in, shown_entry}
use Rattle.press_store.proofs.Put.{went, same_value, cast_int, cast_null, put_among, put_other, not_true}
use Rattle.press_store.proofs.Queries.{picked, equals_text, plain_meta}
use Rattle.press_store.proofs.Rounds.{meta_found, meta_work}
use Rattle.press_store.proofs.Signed.{signed_back}
use Rattle.press_store.specs.Starts.{starts_in}
use Rattle.press_store.proofs.Standing.{same_starts, MetaChange, OthersStay, stand, meta_change, still_listed, tables_still}
use Rattle.press_store.proofs.Texts.{is_equal_to, entry_query, owner_terms, owner_insert}
use Rattle.press_store.proofs.Versions.{turned}

-- ---- three rows that are put

both : (a b : Bool) → (a && b) ≡ true → (a ≡ true) × (b ≡ true)
both true b h = (refl, h)
both false b h = absurd (let e = h in cc)

module _ (rows : List Row) (a b c : Row) (fresh : are_fresh rows (a ∷ b ∷ c ∷ []) ≡ true) where
  first_free : is_taken rows a ≡ false
  first_free = not_true _ (both _ _ fresh).0

  second_free : is_taken (put_row a rows) b ≡ false
  second_free = not_true _ (both _ _ (both _ _ fresh).1).0

  third_free : is_taken (put_row b (put_row a rows)) c ≡ false
  third_free = not_true _ (both _ _ (both _ _ (both _ _ fresh).1).1).0

  module _ (p : Row → Bool) where
    pub none_put : p a ≡ false → p b ≡ false → p c ≡ false → filter p (put_all rows (a ∷ b ∷ c ∷ [])) ≡ filter p rows
    none_put x y z = put_other p c (put_row b (put_row a rows)) z third_free ∙ put_other p b (put_row a rows) y second_free ∙ put_other p a rows x first_free

    pub first_put : p a ≡ true → p b ≡ false → p c ≡ false → filter p rows ≡ [] → filter p (put_all rows (a ∷ b ∷ c ∷ [])) ≡ a ∷ []
    first_put x y z none = put_other p c (put_row b (put_row a rows)) z third_free ∙ put_other p b (put_row a rows) y second_free ∙ put_among p a rows x none

    pub second_put : p a ≡ false → p b ≡ true → p c ≡ false → filter p rows ≡ [] → filter p (put_all rows (a ∷ b ∷ c ∷ [])) ≡ b ∷ []
    second_put x y z none = put_other p c (put_row b (put_row a rows)) z third_free ∙ put_among p b (put_row a rows) y (put_other p a rows x first_free ∙ none)

    pub third_put : p a ≡ false → p b ≡ false → p c ≡ true → filter p rows ≡ [] → filter p (put_all rows (a ∷ b ∷ c ∷ [])) ≡ c ∷ []
    third_put x y z none = put_among p c (put_row b (put_row a rows)) z (put_other p b (put_row a rows) y second_free ∙ put_other p a rows x first_free ∙ none)

-- ---- their names

has_name : (id n : Value) (name : List ℕ) → is_named name (id ∷ Text name ∷ n ∷ []) ≡ true
has_name id n name = ap is_eq (tied_itself value_cmp_total (Text name))

-- ---- their values

pub owner_back : (owner : Owner) → (1 ≤ owner.number) × (owner.number ≤ 7) → owner.members ≤ 255 → owner.peers < 2 ^ 64
    → owner_by (Some (Some (pos owner.number))) (Some (Some (pos owner.members))) (Some (Some (signed_number owner.peers))) ≡ Some (Some owner)
owner_back owner (low, high) small less = rw (le-leb 1 owner.number low, le-leb owner.number 7 high, leb-zero owner.members, le-leb owner.members 255 small, signed_back owner.peers less)

-- ---- nobody's file has none of the rows

not_none : {X : Type 0} (o : Option X) → option_map Some o ≡ Some None → ⊥
not_none None h = absurd (let e = h in cc)
not_none (Some x) h = absurd (let e = h in cc)

no_values : (xs : List Value) → entry_of xs ≡ Some None → xs ≡ []
no_values [] h = refl
no_values (v ∷ []) h = absurd (not_none (int_in v) h)
no_values (v ∷ w ∷ more) h = absurd (let e = h in cc)

none_mapped : {X Y : Type 0} (f : X → Y) (xs : List X) → map f xs ≡ [] → xs ≡ []
none_mapped f [] h = refl
none_mapped f (x ∷ xs) h = absurd (let e = h in cc)

no_entry : (name : List ℕ) (db : Trees) → entry_in name db ≡ Some None → filter (is_named name) (meta_rows db) ≡ []
no_entry name db h = none_mapped (λ r. column r 2) _ (no_values _ h)

free_entries : (x y z : Option (Option ℤ)) → owner_by x y z ≡ Some None → (x ≡ Some None) × (y ≡ Some None) × (z ≡ Some None)
free_entries None y z h = absurd (let e = h in cc)
free_entries (Some None) None z h = absurd (let e = h in cc)
free_entries (Some None) (Some None) None h = absurd (let e = h in cc)
free_entries (Some None) (Some None) (Some None) h = (refl, refl, refl)
free_entries (Some None) (Some None) (Some (Some c)) h = absurd (let e = h in cc)
free_entries (Some None) (Some (Some b)) z h = absurd (let e = h in cc)
free_entries (Some (Some a)) None z h = absurd (let e = h in cc)
free_entries (Some (Some a)) (Some None) z h = absurd (let e = h in cc)
free_entries (Some (Some a)) (Some (Some b)) None h = absurd (let e = h in cc)
free_entries (Some (Some a)) (Some (Some b)) (Some None) h = absurd (let e = h in cc)
free_entries (Some (Some a)) (Some (Some b)) (Some (Some c)) h = absurd (not_none (owner_from a b c) h)

meta_same : (blocks votes old new : List Row) → filter is_last_round new ≡ filter is_last_round old → store_of blocks votes new ≡ store_of blocks votes old
unfolding round_at store_of
meta_same blocks votes old new same =
    ap (λ n. record { promises = map_of (promise_at blocks votes); votes = map_of (vote_at votes); last_round = n }) (ap (λ rows. unwrap_or (round_in rows) damaged_round) same)

-- ---- the write

-- the owner is one whose rows can be read
pub record IsMember (owner : Owner) : Type 0 where
  pub number : (1 ≤ owner.number) × (owner.number ≤ 7)
  pub members : owner.members ≤ 255
  pub peers : owner.peers < 2 ^ 64

abbrev pub owner_params : Owner → Row
owner_params owner = Int (pos owner.number) ∷ Int (pos owner.members) ∷ Int (signed_number owner.peers) ∷ []

-- nobody's file becomes the owner's, and nothing else that the tables stand for is changed
pub record OwnerPut (owner : Owner) (old new : Trees) : Type 0 where
  pub stands : store_in new ≡ store_in old
  pub owned : owner_in old ≡ Some None → owner_in new ≡ Some (Some owner)
  pub version : IsOurVersion old → IsOurVersion new
  pub starts : starts_in new ≡ starts_in old

module _ (l : Layout) (owner : Owner) (is_member : IsMember owner) (limit : Option ℕ) (mode : Mode) (now after : Database) (tally : Tally) (text : List ℕ) (has : AreTables l now)
    (does : Does limit mode (owner_params owner) now text None (owner_insert l) (Ok (tally, after))) where
  abbrev tree : ℕ
  tree = meta_tree l

  abbrev rows : List Row
  rows = now.trees tree

  abbrev one : Row
  one = Int (next_rowid rows) ∷ Text (codes "member") ∷ Int (pos owner.number) ∷ []

  abbrev two : Row
  two = Int (next_rowid (put_row one rows)) ∷ Text (codes "members") ∷ Int (pos owner.members) ∷ []

  abbrev three : Row
  three = Int (next_rowid (put_row two (put_row one rows))) ∷ Text (codes "peers") ∷ Int (signed_number owner.peers) ∷ []

  abbrev edit : List Row → Edit
  edit sources = edit_of now.trees (meta_on tree) [] Chosen 0 sources

  parts : Does limit mode (owner_params owner) (record now { schema = schema_of l }) text None (owner_insert l) (Ok (tally, after))
  parts = subst (λ s. Does limit mode (owner_params owner) (record now { schema = s }) text None (owner_insert l) (Ok (tally, after))) has.schema does

  done : (w : Written) × Inserts (record { limit = limit; keys = mode.keys; schema = schema_of l; table = meta_on tree; params = owner_params owner }) (Values owner_terms 3) now.trees (Ok w)
      × (after ≡ record { schema = schema_of l; trees = w.trees })
  done =
      let first = went (rw (meta_found l) at parts) in
      let told = went first.2 in
      (first.0, first.1, ap (λ (p : Tally × Database). p.1) (same_value (went told.2).2))

  wrote : (sources : List Row) × ((edit sources).news ≡ one ∷ two ∷ three ∷ []) × Applies (schema_of l) mode.keys now.trees (edit sources) done.0.trees
  wrote =
      let given = went done.1 in
      let written = went (went given.2).2 in
      let counted = went written.2 in
      let trees : done.0.trees ≡ written.0 = ap (λ (it : Written). it.trees) (same_value counted.2) ∙ same_value counted.1 in (
        given.0,
        ap (λ sources. (edit sources).news) given.1.1 ∙ rw (cast_null, cast_int (pos owner.number), cast_int (pos owner.members), cast_int (signed_number owner.peers)),
        subst (Applies (schema_of l) mode.keys now.trees (edit given.0)) (sym trees)
            (one_step (schema_of l) mode.keys now.trees written.0 (edit given.0) (meta_work l tree mode.keys (taken_by now.trees (edit given.0)) (edit given.0).news) written.1),
      )

  fresh : are_fresh rows (one ∷ two ∷ three ∷ []) ≡ true
  fresh = sym (ap (are_fresh rows) wrote.1) ∙ wrote.2.fresh

  trees_are : after.trees ≡ done.0.trees
  trees_are = ap (λ (d : Database). d.trees) done.2

  put : after.trees tree ≡ put_all rows (one ∷ two ∷ three ∷ [])
  put = ap (λ (t : Trees). t tree) trees_are ∙ wrote.2.rows ∙ ap (put_all rows) wrote.1

  change : MetaChange now.trees after.trees
  change = meta_change now.trees after.trees l has.listed (subst (OthersStay l tree now.trees) (sym trees_are) wrote.2.others)

  was_meta : meta_rows now.trees ≡ rows
  was_meta = (stand l now.trees has.listed).meta

  meta_is : meta_rows after.trees ≡ put_all rows (one ∷ two ∷ three ∷ [])
  meta_is = (stand l after.trees (still_listed l now.trees after.trees change.listed has.listed)).meta ∙ put

  -- the rows of another name stay
  stays : (p : Row → Bool) → p one ≡ false → p two ≡ false → p three ≡ false → filter p (meta_rows after.trees) ≡ filter p (meta_rows now.trees)
  stays p x y z = ap (filter p) meta_is ∙ none_put rows one two three fresh p x y z ∙ ap (filter p) (sym was_meta)

  round_stays : filter is_last_round (meta_rows after.trees) ≡ filter is_last_round (meta_rows now.trees)
  round_stays =
      stays is_last_round (ap is_eq (value_cmp-Text (codes "member") (codes "last_round"))) (ap is_eq (value_cmp-Text (codes "members") (codes "last_round")))
      (ap is_eq (value_cmp-Text (codes "peers") (codes "last_round")))

  version_stays : filter is_version (meta_rows after.trees) ≡ filter is_version (meta_rows now.trees)
  version_stays =
      stays is_version (ap is_eq (value_cmp-Text (codes "member") (codes "version"))) (ap is_eq (value_cmp-Text (codes "members") (codes "version")))
      (ap is_eq (value_cmp-Text (codes "peers") (codes "version")))

  -- each of the rows stands there alone
  abbrev Free : List ℕ → Type 0
  Free name = filter (is_named name) (meta_rows now.trees) ≡ []

  member_is : Free (codes "member") → entry_in (codes "member") after.trees ≡ Some (Some (pos owner.number))
  member_is none =
      let p = is_named (codes "member") in
      ap (λ xs. entry_of (map (λ r. column r 2) xs))
      (ap (filter p) meta_is
      ∙ first_put rows one two three fresh p (has_name (column one 0) (column one 2) (codes "member")) (ap is_eq (value_cmp-Text (codes "members") (codes "member"))) (ap is_eq (value_cmp-Text (codes "peers") (codes "member")))
      (ap (filter p) (sym was_meta) ∙ none))

  members_is : Free (codes "members") → entry_in (codes "members") after.trees ≡ Some (Some (pos owner.members))
  members_is none =
      let p = is_named (codes "members") in
      ap (λ xs. entry_of (map (λ r. column r 2) xs))
      (ap (filter p) meta_is
      ∙ second_put rows one two three fresh p (ap is_eq (value_cmp-Text (codes "member") (codes "members"))) (has_name (column two 0) (column two 2) (codes "members")) (ap is_eq (value_cmp-Text (codes "peers") (codes "members")))
      (ap (filter p) (sym was_meta) ∙ none))

  peers_is : Free (codes "peers") → entry_in (codes "peers") after.trees ≡ Some (Some (signed_number owner.peers))
  peers_is none =
      let p = is_named (codes "peers") in
      ap (λ xs. entry_of (map (λ r. column r 2) xs))
      (ap (filter p) meta_is
      ∙ third_put rows one two three fresh p (ap is_eq (value_cmp-Text (codes "member") (codes "peers"))) (ap is_eq (value_cmp-Text (codes "members") (codes "peers"))) (has_name (column three 0) (column three 2) (codes "peers"))
      (ap (filter p) (sym was_meta) ∙ none))

  becomes_owned : owner_in now.trees ≡ Some None → owner_in after.trees ≡ Some (Some owner)
  unfolding owner_in
  becomes_owned free =
      let (x, y, z) = free_entries _ _ _ free in
      rw (member_is (no_entry _ now.trees x), members_is (no_entry _ now.trees y), peers_is (no_entry _ now.trees z)) (owner_back owner is_member.number is_member.members is_member.peers)

  still_stands : store_in after.trees ≡ store_in now.trees
  still_stands =
      turned (λ store. store) now.trees after.trees has.emptied (change.old_stay ∙ has.emptied)
      (ap₂ (λ b v. store_of b v (meta_rows after.trees)) change.blocks change.votes ∙ meta_same (block_rows now.trees) (vote_rows now.trees) (meta_rows now.trees) (meta_rows after.trees) round_stays)

  pub owner_put : AreTables l after × OwnerPut owner now.trees after.trees
  owner_put =
      let kept : IsKept after.trees = record { row = has.kept.row; one = round_stays ∙ has.kept.one; id = has.kept.id; numbered = has.kept.numbered } in (
        tables_still l now after (ap (λ (d : Database). d.schema) done.2) change.listed change.old_stay kept has,
        record {
          stands = still_stands;
          owned = becomes_owned;
          version = λ it. record { row = it.row; one = version_stays ∙ it.one; number = it.number };
          starts = same_starts now.trees after.trees change.starts change.marks change.notes;
        },
      )

-- ---- the query

entry_permuted : (xs ys : List Value) → IsPermutation xs ys → entry_of ys ≡ entry_of xs
entry_permuted [] [] h = refl
entry_permuted [] (y ∷ ys) h = absurd (omega (arith, length_permutation _ _ h))
entry_permuted (x ∷ []) ys h = ap entry_of (one_permutation x ys h)
entry_permuted (x ∷ w ∷ xs) [] h = absurd (omega (arith, length_permutation _ _ h))
entry_permuted (x ∷ w ∷ xs) (y ∷ []) h = absurd (omega (arith, length_permutation _ _ h))
entry_permuted (x ∷ w ∷ xs) (y ∷ z ∷ ys) h = refl

-- the query on a name shows its number
pub entry_shown : (l : Layout) (db : Database) (name : List ℕ) (rows : List Row) → AreTables l db → Answers db (record { lets = []; body = entry_query l }) (Text name ∷ []) rows → shown_entry rows ≡ entry_in name db.trees
entry_shown l db name rows has h =
    let f : Row → Row = λ r. column r 2 ∷ [] in
    let first : Row → Value = λ v. column v 0 in
    let found = picked (meta_tree l) (is_equal_to (col 1 1) (col 0 0)) (col 1 2 ∷ []) db (Text name ∷ []) rows (plain_meta l db.trees) h in
    let same = ap (λ p. map f (filter p (db.trees (meta_tree l)))) (fun_ext (λ r. equals_text (column r 1) name)) ∙ ap (λ xs. map f (filter (is_named name) xs)) (sym (stand l db.trees has.listed).meta) in
    let shown = IsPermutation-map first _ rows (subst (λ xs. IsPermutation xs rows) same found) in
    entry_permuted _ _ (subst (λ xs. IsPermutation xs (map first rows)) (map-map first f _) shown)

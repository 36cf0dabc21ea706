-- What the statement on the last round makes of the tables, and what the query on it shows.
use Rattle.std.proofs.Common.{◌≤◌, Option, ◌≡◌, ℕ, ℤ, pos, List, [], ◌∷◌, map, codes, filter, true, Bool, not, Some, None, Ok, Err, Result, refl, sym, ap, ap₂, subst, ◌∙◌, inl, inr, arith}
use Rattle.std.specs.Prelude.{OnOk, slice_get, unwrap_or}
use Rattle.std.proofs.lemmas.Bool.{cases_Bool, le-leb}
use Rattle.std.proofs.Math.Dec.{leb-zero}
use Rattle.std.specs.List.Sorted.{IsPermutation}
use Rattle.std.specs.Ordering.{is_eq}
use mathlib.Core.Path.{fun_ext}
use Rattle.sqlite.specs.declared.types.Value.{Value}
use Rattle.sqlite.specs.declared.types.Value.TheVariants.{Null, Int, Text, Real, Blob}
use Rattle.sqlite.specs.declared.run.Mode.{Mode}
use Rattle.sqlite.specs.Order.{Row, column, value_cmp}
use Rattle.sqlite.specs.Tree.{Trees, has_rowid, rowid, put_row, without_rowid}
use Rattle.sqlite.specs.Cast.{cast}
use Rattle.sqlite_schema.specs.declared.schema.Kind.TheVariants.{Integer, Text as KText}
use Rattle.sqlite_schema.specs.declared.schema.Keys.{Keys}
use Rattle.sqlite_value.proofs.OrderLemmas.{value_cmp-apart}
use Rattle.sqlite.specs.Does.{Tally, Does}
use Rattle.sqlite.specs.Rows.{Written, Updates}
use Rattle.sqlite.specs.Effect.{Database, Answers}
use Rattle.sqlite.specs.Edit.{edit_of, edited, taken_by, Applies, IsNoIndex}
use Rattle.sqlite.specs.Rowids.TheVariants.{Given}
use Rattle.sqlite.specs.Term.{holds, eval_all, col, lit}
use Rattle.sqlite_rules.specs.Action.{works}
use Rattle.sqlite_rules.specs.Calls.{ids_of}
use Rattle.sqlite_rules.specs.Lists.{Has}
use Rattle.sqlite_rules.proofs.ListLemmas.{has_filtered}
use Rattle.sqlite.specs.declared.error.Error.{Error}
use Rattle.sqlite.specs.Listing.{understood}
use Rattle.sqlite.specs.State.{State, ExecutesInside, mode_of}
use Rattle.sqlite.proofs.Callers.{one_permutation, one_step, runs_as, statement_of}
use Rattle.press_acceptor.specs.StoreMap.{with_round}
use Rattle.press_store.specs.Tables.{save_round_text}
use Rattle.press_store.specs.Tables.{Layout, Fresh, Moved, FreshStarts, MovedStarts, schema_of, meta_on, meta_place, meta_tree}
use Rattle.press_store.specs.Shown.{is_last_round, most_rounds, damaged_round, IsKept, block_rows, vote_rows, meta_rows, round_at, store_of, number_in}
use Rattle.press_store.specs.Stands.{store_in, store_with}
use Rattle.press_store.specs.Attempt.{AreTables}
use Rattle.press_store.proofs.Maps.{round_saved}
use Rattle.press_store.proofs.Put.{went, same_value, cast_int, put_among, same_int}
use Rattle.press_store.proofs.Queries.{picked, equals_text, plain_meta}
use Rattle.press_store.specs.Starts.{starts_in}
use Rattle.press_store.proofs.Standing.{same_starts, stand, meta_change, still_listed, tables_still}
use Rattle.press_store.proofs.Versions.{turned}
use Rattle.press_store.proofs.Texts.{is_equal_to, update_query, round_query, round_update, save_round_means}

pub filter_turned : {X : Type 0} (p q : X → Bool) (xs : List X) → filter p (filter q xs) ≡ filter q (filter p xs)
filter_turned p q [] = refl
filter_turned p q (x ∷ xs) = elim (cases_Bool (p x)) [
  | inl a ↦ elim (cases_Bool (q x)) [ inl b ↦ rw (b, a, b, filter_turned p q xs) | inr b ↦ rw (b, a, b, filter_turned p q xs) ]
  | inr a ↦ elim (cases_Bool (q x)) [ inl b ↦ rw (b, a, filter_turned p q xs) | inr b ↦ rw (b, a, filter_turned p q xs) ]
]

-- one row in the place of the only one that passes a test
pub replaced : (p : Row → Bool) (old new : Row) (id : ℤ) (rows : List Row) → filter p rows ≡ old ∷ [] → rowid old ≡ Int id → p new ≡ true → filter p (put_row new (without_rowid id rows)) ≡ new ∷ []
replaced p old new id rows one is on =
    let gone : has_rowid id old ≡ true = rw is (same_int id) in
    put_among p new (without_rowid id rows) on (filter_turned p (λ r. not (has_rowid id r)) rows ∙ rw (one, gone))

-- a text that is cast to a text stays what it is, and nothing else equals one
stays_named : (v : Value) (t : List ℕ) → is_eq (value_cmp v (Text t)) ≡ true → is_eq (value_cmp (cast KText v) (Text t)) ≡ true
stays_named Null t h = h
stays_named (Int n) t h = absurd (let e = rw (value_cmp-apart (Int n) (Text t) (λ e. absurd (omega (arith, e)))) at h in cc)
stays_named (Real x) t h = absurd (let e = rw (value_cmp-apart (Real x) (Text t) (λ e. absurd (omega (arith, e)))) at h in cc)
stays_named (Text s) t h = h
stays_named (Blob b) t h = h

pub in_range : (n : ℕ) → n ≤ most_rounds → number_in 0 most_rounds (Int (pos n)) ≡ Some n
in_range n small = rw (leb-zero n, le-leb n most_rounds small)

-- ---- the save

pub meta_work : (l : Layout) (tree : ℕ) (keys : Keys) (olds news : List Row) → works (schema_of l) keys 0 tree olds news ≡ []
meta_work Fresh tree keys olds news = refl
meta_work Moved tree keys olds news = refl
meta_work FreshStarts tree keys olds news = refl
meta_work MovedStarts tree keys olds news = refl

pub meta_found : (l : Layout) → slice_get (schema_of l).tables (meta_place l) ≡ Some (meta_on (meta_tree l))
meta_found Fresh = refl
meta_found Moved = refl
meta_found FreshStarts = refl
meta_found MovedStarts = refl

module _ (l : Layout) (limit : Option ℕ) (mode : Mode) (params : Row) (n : ℕ) (now after : Database) (tally : Tally) (given : params ≡ Int (pos n) ∷ []) (small : n ≤ most_rounds) (has : AreTables l now)
    (text : List ℕ) (does : Does limit mode params now text None (round_update l) (Ok (tally, after))) where
  abbrev tree : ℕ
  tree = meta_tree l

  parts : Does limit mode params (record now { schema = schema_of l }) text None (round_update l) (Ok (tally, after))
  parts = subst (λ s. Does limit mode params (record now { schema = s }) text None (round_update l) (Ok (tally, after))) has.schema does

  done : (w : Written) × Updates (record { limit = limit; keys = mode.keys; schema = schema_of l; table = meta_on tree; params = params }) (record { lets = []; body = update_query tree }) params now.trees (Ok w)
      × (after ≡ record { schema = schema_of l; trees = w.trees })
  done =
      let first = went (rw (meta_found l) at parts) in
      let told = went first.2 in
      (first.0, first.1, ap (λ (p : Tally × Database). p.1) (same_value (went told.2).2))

  wrote : (rows : List Row) × Answers (record { schema = schema_of l; trees = now.trees }) (record { lets = []; body = update_query tree }) params rows
      × Applies (schema_of l) mode.keys now.trees (edit_of now.trees (meta_on tree) (ids_of rows) Given 1 rows) done.0.trees
  wrote =
      let first = went done.1 in
      let second = went first.2 in
      let trees : done.0.trees ≡ second.0 = ap (λ (it : Written). it.trees) (same_value second.2) in
      let edit = edit_of now.trees (meta_on tree) (ids_of first.0) Given 1 first.0 in (
        first.0,
        first.1,
        subst (Applies (schema_of l) mode.keys now.trees edit) (sym trees) (one_step (schema_of l) mode.keys now.trees second.0 edit (meta_work l tree mode.keys (taken_by now.trees edit) edit.news) second.1),
      )

  as_found : (r : Row) → holds (params ∷ r ∷ []) (is_equal_to (col 1 1) (lit (Text (codes "last_round")))) ≡ is_last_round r
  as_found r = equals_text (column r 1) (codes "last_round")

  abbrev row : Row
  row = has.kept.row

  was_one : filter is_last_round (now.trees tree) ≡ row ∷ []
  was_one = ap (filter is_last_round) (sym (stand l now.trees has.listed).meta) ∙ has.kept.one

  one : wrote.0 ≡ (column row 0 ∷ column row 0 ∷ column row 1 ∷ column params 0 ∷ []) ∷ []
  one =
      let project = col 1 0 ∷ col 1 0 ∷ col 1 1 ∷ col 0 0 ∷ [] in
      let same = ap (λ p. map (λ r. eval_all project (params ∷ r ∷ [])) (filter p (now.trees tree))) (fun_ext as_found) ∙ ap (map (λ r. eval_all project (params ∷ r ∷ []))) was_one in
      one_permutation _ wrote.0 (subst (λ xs. IsPermutation xs wrote.0) same (picked tree _ project (record { schema = schema_of l; trees = now.trees }) params wrote.0 (plain_meta l now.trees) wrote.1))

  abbrev new : Row
  new = Int has.kept.id ∷ cast KText (column row 1) ∷ Int (pos n) ∷ []

  param : cast Integer (column params 0) ≡ Int (pos n)
  param = rw given (cast_int (pos n))

  id_is : cast Integer (column row 0) ≡ Int has.kept.id
  id_is = rw has.kept.numbered (cast_int has.kept.id)

  rows : done.0.trees tree ≡ put_row new (without_rowid has.kept.id (now.trees tree))
  rows =
      wrote.2.rows ∙ ap (λ all. edited now.trees (edit_of now.trees (meta_on tree) (ids_of all) Given 1 all)) one
      ∙ rw (param, id_is, has.kept.numbered)

  named : is_last_round row ≡ true
  named = (has_filtered is_last_round (now.trees tree) row (subst (λ list. Has list row) (sym was_one) (inl refl))).1

  still : is_last_round new ≡ true
  still = stays_named (column row 1) (codes "last_round") named

  found_one : filter is_last_round (done.0.trees tree) ≡ new ∷ []
  found_one = rw rows (replaced is_last_round row new has.kept.id (now.trees tree) was_one has.kept.numbered still)

  pub round_put : AreTables l after × (store_in after.trees ≡ with_round (store_in now.trees) n)
  unfolding round_at
  round_put =
      let trees : after.trees ≡ done.0.trees = ap (λ (d : Database). d.trees) done.2 in
      let others = subst (λ (t : Trees). (k : ℕ) → (k ≡ tree → ⊥) → IsNoIndex (schema_of l) k → t k ≡ now.trees k) (sym trees) wrote.2.others in
      let change = meta_change now.trees after.trees l has.listed others in
      let is = stand l after.trees (still_listed l now.trees after.trees change.listed has.listed) in
      let now_one : filter is_last_round (meta_rows after.trees) ≡ new ∷ [] = ap (filter is_last_round) (is.meta ∙ ap (λ (t : Trees). t tree) trees) ∙ found_one in
      let kept : IsKept after.trees = record { row = new; one = now_one; id = has.kept.id; numbered = refl } in
      let shows : round_at (meta_rows after.trees) ≡ n = rw (now_one, in_range n small) refl in (
        tables_still l now after (ap (λ (d : Database). d.schema) done.2) change.listed change.old_stay kept has,
        turned (λ store. with_round store n) now.trees after.trees has.emptied (change.old_stay ∙ has.emptied)
            (ap₂ (λ b v. store_of b v (meta_rows after.trees)) change.blocks change.votes ∙ round_saved (block_rows now.trees) (vote_rows now.trees) (meta_rows now.trees) (meta_rows after.trees) n shows),
      )

  pub round_spared : starts_in after.trees ≡ starts_in now.trees
  round_spared =
      let trees : after.trees ≡ done.0.trees = ap (λ (d : Database). d.trees) done.2 in
      let others = subst (λ (t : Trees). (k : ℕ) → (k ≡ tree → ⊥) → IsNoIndex (schema_of l) k → t k ≡ now.trees k) (sym trees) wrote.2.others in
      let change = meta_change now.trees after.trees l has.listed others in
      same_starts now.trees after.trees change.starts change.marks change.notes

-- ---- the same within a transaction

pub round_done : (old new : State) (n : ℕ) (result : Result ℕ Error) → n ≤ most_rounds → (l : Layout) → AreTables l old.now → ExecutesInside 0 save_round_text (Int (pos n) ∷ []) old new result
    → OnOk result (AreTables l new.now × (store_in new.now.trees ≡ with_round (store_in old.now.trees) n) × (starts_in new.now.trees ≡ starts_in old.now.trees))
round_done old new n (Err e) small l has ran = tt
round_done old new n (Ok count) small l has ran =
    let text = statement_of save_round_text (understood (schema_of l) save_round_text) in
    let w = runs_as save_round_text (Int (pos n) ∷ []) old new (schema_of l) has.schema (round_update l) (save_round_means l).0 (save_round_means l).1 count ran.0 in
    let put = round_put l old.step_limit (mode_of old) (Int (pos n) ∷ []) n old.now new.now w.tally refl small has text w.changed in
    (put.0, put.1, round_spared l old.step_limit (mode_of old) (Int (pos n) ∷ []) n old.now new.now w.tally refl small has text w.changed)

-- ---- the query

-- the query on the last round gives its number
pub round_found : (l : Layout) (db : Database) (rows : List Row) → (has : AreTables l db) → Answers db (record { lets = []; body = round_query l }) [] rows → rows ≡ (column has.kept.row 2 ∷ []) ∷ []
round_found l db rows has h =
    let project = col 1 2 ∷ [] in
    let tree = meta_tree l in
    let found = picked tree (is_equal_to (col 1 1) (lit (Text (codes "last_round")))) project db [] rows (plain_meta l db.trees) h in
    let one = ap (filter is_last_round) (sym (stand l db.trees has.listed).meta) ∙ has.kept.one in
    let same = ap (λ p. map (λ r. eval_all project ([] ∷ r ∷ [])) (filter p (db.trees tree))) (fun_ext (λ r. equals_text (column r 1) (codes "last_round"))) ∙ ap (map (λ r. eval_all project ([] ∷ r ∷ []))) one in
    one_permutation _ rows (subst (λ xs. IsPermutation xs rows) same found)

pub round_shown : (db : Trees) (kept : IsKept db) → (store_in db).last_round ≡ unwrap_or (number_in 0 most_rounds (column kept.row 2)) damaged_round
unfolding store_in store_with round_at
round_shown db kept = rw kept.one

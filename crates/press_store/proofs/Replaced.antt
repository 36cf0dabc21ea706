-- What an INSERT OR REPLACE of one row with its number makes of the tables, whichever table it is and wherever it stands.
use Rattle.std.proofs.Common.{◌≡◌, Option, ℕ, ℤ, pos, List, [], ◌∷◌, length, cond, drop, filter, true, false, Bool, not, Some, None, Ok, refl, sym, ap, subst, ◌∙◌, inl, inr}
use Rattle.std.specs.Prelude.{slice_get, ◌/◌, ◌&&◌, ◌||◌, ◌⊎◌}
use Rattle.std.proofs.lemmas.Bool.{cases_Bool}
use Rattle.std.specs.Ordering.{is_eq}
use Rattle.std.specs.declared.cmp.Ordering.TheVariants.{Equal}
use Rattle.sqlite.specs.declared.types.Value.{Value}
use Rattle.sqlite.specs.declared.types.Value.TheVariants.{Null, Int, Real, Text, Blob}
use Rattle.sqlite.specs.Order.{Row, value_cmp}
use Rattle.sqlite.specs.Tree.{Trees, has_rowid, rowid, put_row, without_rowid}
use Rattle.sqlite.specs.Schema.{Schema}
use Rattle.sqlite.specs.Table.{Table}
use Rattle.sqlite.specs.Edit.{at_least, next_rowid, id_in, without_all, is_taken, with_rowid, edit_of, taken_by, Applies, IsNoIndex}
use Rattle.sqlite.specs.Rowids.TheVariants.{Given, Chosen}
use Rattle.sqlite_rules.specs.Calls.{ids_of}
use Rattle.sqlite_rules.specs.Lists.{Has}
use Rattle.sqlite_rules.specs.Keys.{AreConflicts, conflicts}
use Rattle.sqlite_rules.specs.Action.{works}
use Rattle.sqlite_value.proofs.OrderLemmas.{value_cmp_total}
use Rattle.sqlite_value.proofs.KeyLemmas.{first_key-plain}
use Rattle.sqlite_trees.proofs.ListLemmas.{filter-filter}
use Rattle.sqlite.specs.Ops.{binary, is_true, is_null}
use Rattle.sqlite_sql.specs.declared.ops.BinaryOp.TheVariants as by
use Rattle.sqlite_sql.specs.declared.ops.CompareOp.TheVariants.{Eq}
use Rattle.sqlite.specs.Collation.TheVariants.{Binary}
use Rattle.sqlite.specs.Term.{Term}
use Rattle.sqlite.specs.Cast.{cast_row}
use Rattle.sqlite.specs.Does.{Tally, Does}
use Rattle.sqlite.specs.Rows.{Written, Task, InsertsOr, Tries, TriesEach, Clears, rowids_for, mended, stamped, count_of, nothing}
use Rattle.sqlite.specs.Effect.{Database, value_rows}
use Rattle.sqlite.specs.declared.run.Mode.{Mode}
use Rattle.sqlite.specs.Command.TheVariants.{InsertOr}
use Rattle.sqlite.specs.Source.TheVariants.{Values}
use Rattle.sqlite_schema.specs.declared.command.Conflict.TheVariants.{Replace}
use Rattle.sqlite_schema.specs.declared.schema.Keys.{Keys}
use Rattle.sqlite_schema.specs.declared.schema.Column.{Column}
use Rattle.sqlite.proofs.Callers.{one_step}
use Rattle.press_store.specs.Tables.{keyed_table, Layout, Fresh, Moved, FreshStarts, MovedStarts, HasStarts, schema_of, block_columns, block_tree, block_place, block_on, vote_columns, vote_tree, vote_place, vote_on}
use Rattle.press_store.specs.Tables.{start_columns, start_tree, start_place, start_on, mark_columns, mark_tree, mark_place, mark_on, note_columns, note_tree, note_place, note_on}
use Rattle.std.proofs.Common.{codes}
use Rattle.press_store.proofs.Texts.{promise_terms, vote_terms, start_terms, promise_insert, vote_insert, start_insert, mark_insert, note_insert}
use Rattle.press_store.proofs.Queries.{equals_int}
use Rattle.press_store.proofs.Put.{went, same_value, cast_int, cast_null, and_true, not_true, put_among, put_other, none_taken, same_int, same_pos, not_same, is_equal, int_tied}

or_false : (b : Bool) → (b || false) ≡ true → b ≡ true
or_false true h = refl
or_false false h = h

-- a row that equals a number has it as its rowid, or no rowid
id_of : (v : Value) (n : ℤ) → is_eq (value_cmp v (Int n)) ≡ true → (id_in v ≡ n) ⊎ (id_in v ≡ pos 0)
id_of Null n h = inr refl
id_of (Int m) n h = inl (int_tied m n h)
id_of (Real x) n h = inr refl
id_of (Text t) n h = inr refl
id_of (Blob b) n h = inr refl

both_rowids : (s id : ℤ) (x : Row) → (id ≡ s → ⊥) → has_rowid s x ≡ true → not (has_rowid id x) ≡ true
both_rowids s id x apart one = elim (cases_Bool (has_rowid id x)) [
  | inl two ↦
      let first = is_equal _ one in
      let second = is_equal _ two in
      let tied : value_cmp (Int s) (Int id) ≡ Equal = sym (value_cmp_total.congr (rowid x) (Int s) (Int id) first) ∙ second in
      absurd (apart (sym (int_tied s id (rw tied))))
  | inr off ↦ rw off
]

others_kept : (s : ℤ) (found rows : List Row) → ((x : Row) → Has found x → id_in (rowid x) ≡ s → ⊥) → filter (has_rowid s) (without_all rows (ids_of found)) ≡ filter (has_rowid s) rows
others_kept s [] rows apart = refl
others_kept s (x ∷ found) rows apart =
    others_kept s found (without_rowid (id_in (rowid x)) rows) (λ y h. apart y (inr h))
    ∙ filter-filter (has_rowid s) (λ r. not (has_rowid (id_in (rowid x)) r)) (λ y. both_rowids s (id_in (rowid x)) y (apart x (inl refl))) rows

accepted : (task : Task) (new : Row) (db : Trees) (w : Written) → Tries task Replace [] new db (Ok w)
    → (found : List Row) × AreConflicts None task.schema.indexes task.table (db task.table.tree) new found × Clears task Replace new db found (Ok w)
accepted task new db w (inl h) = absurd (let e = h.1 in cc)
accepted task new db w (inr (None, judged, h)) = h
accepted task new db w (inr (Some why, judged, h)) = absurd (let e = h in cc)

-- the row is the one with its number, the rows of other numbers are as they were, and so is each other tree but an index
pub record Replaces (schema : Schema) (tree : ℕ) (n : ℤ) (new : Row) (old next : Trees) : Type 0 where
  pub here : filter (has_rowid n) (next tree) ≡ new ∷ []
  pub there : (s : ℤ) → (s ≡ n → ⊥) → (s ≡ pos 0 → ⊥) → filter (has_rowid s) (next tree) ≡ filter (has_rowid s) (old tree)
  pub others : (t : ℕ) → (t ≡ tree → ⊥) → IsNoIndex schema t → next t ≡ old t

module _ (schema : Schema) (at : ℕ) (name : List ℕ) (tree : ℕ) (columns : List Column) (found : slice_get schema.tables at ≡ Some (keyed_table name tree columns))
    (quiet : (keys : Keys) (olds news : List Row) → works schema keys 0 tree olds news ≡ [])
    (alike : (new r : Row) → conflicts None schema.indexes (keyed_table name tree columns) new r ≡ true → is_true (binary (by.Compare Eq Binary) (rowid r) (rowid new)) ≡ true)
    (terms : List Term) (width : ℕ) (n : ℤ) (params src new : Row) (given : value_rows (stamped (keyed_table name tree columns) params) width (length terms / width) terms ≡ src ∷ [])
    (mends : mended Replace (keyed_table name tree columns) src ≡ src) (casts : cast_row (keyed_table name tree columns) src ≡ new) (again : cast_row (keyed_table name tree columns) new ≡ new) (numbered : rowid new ≡ Int n)
    (limit : Option ℕ) (mode : Mode) (now after : Database) (tally : Tally) (has : now.schema ≡ schema) (text : List ℕ)
    (does : Does limit mode params now text None (InsertOr at Replace (Values terms width) []) (Ok (tally, after))) where
  abbrev table : Table
  table = keyed_table name tree columns

  abbrev task : Task
  task = record { limit = limit; keys = mode.keys; schema = schema; table = keyed_table name tree columns; params = params }

  parts : Does limit mode params (record now { schema = schema }) text None (InsertOr at Replace (Values terms width) []) (Ok (tally, after))
  parts = subst (λ s. Does limit mode params (record now { schema = s }) text None (InsertOr at Replace (Values terms width) []) (Ok (tally, after))) has does

  done : (w : Written) × InsertsOr task Replace [] (Values terms width) now.trees (Ok w) × (after ≡ record { schema = schema; trees = w.trees })
  done =
      let first = went (rw found at parts) in
      let told = went first.2 in
      (first.0, first.1, ap (λ (p : Tally × Database). p.1) (same_value (went told.2).2))

  turned_is : (top : ℤ) → with_rowid (rowids_for table top) (now.trees tree) (cast_row table (mended Replace table src)) ≡ new
  turned_is top = ap (λ r. with_rowid (rowids_for table top) (now.trees tree) r) (ap (cast_row table) mends ∙ casts) ∙ whole
    where
      whole : with_rowid (rowids_for table top) (now.trees tree) new ≡ new
      whole = ap (λ b. cond b (Int (at_least Chosen (next_rowid (now.trees tree))) ∷ drop 1 new) new) (ap is_null numbered)

  -- the one row is tried
  tried : (w : Written) × Tries task Replace [] new now.trees (Ok w) × (done.0.trees ≡ w.trees)
  tried =
      let sources = went done.1 in
      let counter = went sources.2 in
      let each = went counter.2 in
      let one : sources.0 ≡ src ∷ [] = sources.1.1 ∙ given in
      let top = count_of counter.0 in
      let tries = went (subst (λ rows. TriesEach task Replace [] rows top (nothing now.trees) (Ok each.0)) one each.1) in
      let last = went each.2 in
      let trees : done.0.trees ≡ tries.0.trees = ap (λ (w : Written). w.trees) (same_value last.2) ∙ same_value last.1 ∙ ap (λ (p : Written × ℤ). p.0.trees) (same_value tries.2) in
      (tries.0, subst (λ r. Tries task Replace [] r now.trees (Ok tries.0)) (turned_is top) tries.1, trees)

  -- it is put in the place of the rows that conflict with it
  put : (rows : List Row) × AreConflicts None schema.indexes table (now.trees tree) new rows × Clears task Replace new now.trees rows (Ok tried.0)
  put = accepted task new now.trees tried.0 tried.1

  abbrev Left : Trees → Trees → List Row → Type 0
  Left db next rows = (mid : Trees) × (mid tree ≡ without_all (db tree) (ids_of rows)) × ((t : ℕ) → (t ≡ tree → ⊥) → IsNoIndex schema t → mid t ≡ db t) × Applies schema mode.keys mid (edit_of mid table [] Given 0 (new ∷ [])) next

  cleared : (db : Trees) (w : Written) (rows : List Row) → Clears task Replace new db rows (Ok w) → Left db w.trees rows
  cleared db w [] h =
      let p = went h in
      let trees : w.trees ≡ p.0 = ap (λ (w : Written). w.trees) (same_value p.2) in
      let edit = edit_of db table [] Given 0 (new ∷ []) in
      (db, refl, λ t _ _. refl, subst (Applies schema mode.keys db edit) (sym trees) (one_step schema mode.keys db p.0 edit (quiet mode.keys (taken_by db edit) edit.news) p.1))
  cleared db w (x ∷ more) h =
      let first = went h in
      let gone = edit_of db table (ids_of (x ∷ more)) Given 0 [] in
      let one = one_step schema mode.keys db first.0 gone (quiet mode.keys (taken_by db gone) gone.news) first.1 in
      let p = went first.2 in
      let trees : w.trees ≡ p.0 = ap (λ (w : Written). w.trees) (same_value p.2) in
      let edit = edit_of first.0 table [] Given 0 (new ∷ []) in
      (first.0, one.rows, one.others, subst (Applies schema mode.keys first.0 edit) (sym trees) (one_step schema mode.keys first.0 p.0 edit (quiet mode.keys (taken_by first.0 edit) edit.news) p.1))

  left : Left now.trees tried.0.trees put.0
  left = cleared now.trees tried.0 put.0 put.2

  next_is : done.0.trees tree ≡ put_row new (left.0 tree)
  next_is = ap (λ (t : Trees). t tree) tried.2 ∙ left.3.rows ∙ ap (λ r. put_row r (left.0 tree)) again

  fresh : is_taken (left.0 tree) new ≡ false
  fresh = not_true _ (and_true _ (subst (λ r. (not (is_taken (left.0 tree) r) && true) ≡ true) again left.3.fresh))

  own : has_rowid n new ≡ true
  own = ap (λ v. is_eq (value_cmp v (Int n))) numbered ∙ same_int n

  other_rows : (s : ℤ) → (s ≡ n → ⊥) → (s ≡ pos 0 → ⊥) → filter (has_rowid s) (done.0.trees tree) ≡ filter (has_rowid s) (now.trees tree)
  other_rows s other some =
      let off : has_rowid s new ≡ false = ap (λ v. is_eq (value_cmp v (Int s))) numbered ∙ not_same n s (λ e. other (sym e)) in
      let gone : (x : Row) → Has put.0 x → id_in (rowid x) ≡ s → ⊥ = λ x has e.
      let was = put.1.sound x has in
      let id : id_in (rowid x) ≡ id_in (rowid was.0) = ap (λ r. id_in (rowid r)) was.3 in
      let equal : is_eq (value_cmp (rowid was.0) (Int n)) ≡ true = sym (equals_int (rowid was.0) n) ∙ ap (λ v. is_true (binary (by.Compare Eq Binary) (rowid was.0) v)) (sym numbered) ∙ alike new was.0 was.2 in
      (elim (id_of (rowid was.0) n equal) as (λ _. ⊥) [
        | inl same ↦ other (sym (sym same ∙ sym id ∙ e))
        | inr none ↦ some (sym (sym none ∙ sym id ∙ e))
      ]) in
      rw next_is (put_other (has_rowid s) new (left.0 tree) off fresh ∙ ap (filter (has_rowid s)) left.1 ∙ others_kept s put.0 (now.trees tree) gone)

  pub replaced : (after.schema ≡ schema) × Replaces schema tree n new now.trees after.trees
  replaced =
      let whole : Replaces schema tree n new now.trees done.0.trees = record {
        here = rw next_is (put_among (has_rowid n) new (left.0 tree) own (none_taken n new (left.0 tree) numbered fresh));
        there = other_rows;
        others = λ t other index. ap (λ (d : Trees). d t) tried.2 ∙ left.3.others t other index ∙ left.2 t other index;
      } in
      (ap (λ (d : Database). d.schema) done.2, subst (Replaces schema tree n new now.trees) (sym (ap (λ (d : Database). d.trees) done.2)) whole)

-- ---- the tables, in each layout

no_work : (l : Layout) (tree : ℕ) (keys : Keys) (olds news : List Row) → works (schema_of l) keys 0 tree olds news ≡ []
no_work Fresh tree keys olds news = refl
no_work Moved tree keys olds news = refl
no_work FreshStarts tree keys olds news = refl
no_work MovedStarts tree keys olds news = refl

block_found : (l : Layout) → slice_get (schema_of l).tables (block_place l) ≡ Some (block_on (block_tree l))
block_found Fresh = refl
block_found Moved = refl
block_found FreshStarts = refl
block_found MovedStarts = refl

vote_found : (l : Layout) → slice_get (schema_of l).tables (vote_place l) ≡ Some (vote_on (vote_tree l))
vote_found Fresh = refl
vote_found Moved = refl
vote_found FreshStarts = refl
vote_found MovedStarts = refl

start_found : (l : Layout) → HasStarts l → slice_get (schema_of l).tables (start_place l) ≡ Some (start_on (start_tree l))
start_found Fresh none = absurd none
start_found Moved none = absurd none
start_found FreshStarts has = refl
start_found MovedStarts has = refl

mark_found : (l : Layout) → HasStarts l → slice_get (schema_of l).tables (mark_place l) ≡ Some (mark_on (mark_tree l))
mark_found Fresh none = absurd none
mark_found Moved none = absurd none
mark_found FreshStarts has = refl
mark_found MovedStarts has = refl

note_found : (l : Layout) → HasStarts l → slice_get (schema_of l).tables (note_place l) ≡ Some (note_on (note_tree l))
note_found Fresh none = absurd none
note_found Moved none = absurd none
note_found FreshStarts has = refl
note_found MovedStarts has = refl

block_alike : (l : Layout) (new r : Row) → conflicts None (schema_of l).indexes (block_on (block_tree l)) new r ≡ true → is_true (binary (by.Compare Eq Binary) (rowid r) (rowid new)) ≡ true
block_alike Fresh new r h = and_true _ (or_false _ (rw first_key-plain at h))
block_alike Moved new r h = and_true _ (or_false _ (rw first_key-plain at h))
block_alike FreshStarts new r h = and_true _ (or_false _ (rw first_key-plain at h))
block_alike MovedStarts new r h = and_true _ (or_false _ (rw first_key-plain at h))

vote_alike : (l : Layout) (new r : Row) → conflicts None (schema_of l).indexes (vote_on (vote_tree l)) new r ≡ true → is_true (binary (by.Compare Eq Binary) (rowid r) (rowid new)) ≡ true
vote_alike Fresh new r h = and_true _ (or_false _ (rw first_key-plain at h))
vote_alike Moved new r h = and_true _ (or_false _ (rw first_key-plain at h))
vote_alike FreshStarts new r h = and_true _ (or_false _ (rw first_key-plain at h))
vote_alike MovedStarts new r h = and_true _ (or_false _ (rw first_key-plain at h))

start_alike : (l : Layout) → HasStarts l → (new r : Row) → conflicts None (schema_of l).indexes (start_on (start_tree l)) new r ≡ true → is_true (binary (by.Compare Eq Binary) (rowid r) (rowid new)) ≡ true
start_alike Fresh none new r h = absurd none
start_alike Moved none new r h = absurd none
start_alike FreshStarts has new r h = and_true _ (or_false _ (rw first_key-plain at h))
start_alike MovedStarts has new r h = and_true _ (or_false _ (rw first_key-plain at h))

mark_alike : (l : Layout) → HasStarts l → (new r : Row) → conflicts None (schema_of l).indexes (mark_on (mark_tree l)) new r ≡ true → is_true (binary (by.Compare Eq Binary) (rowid r) (rowid new)) ≡ true
mark_alike Fresh none new r h = absurd none
mark_alike Moved none new r h = absurd none
mark_alike FreshStarts has new r h = and_true _ (or_false _ (rw first_key-plain at h))
mark_alike MovedStarts has new r h = and_true _ (or_false _ (rw first_key-plain at h))

note_alike : (l : Layout) → HasStarts l → (new r : Row) → conflicts None (schema_of l).indexes (note_on (note_tree l)) new r ≡ true → is_true (binary (by.Compare Eq Binary) (rowid r) (rowid new)) ≡ true
note_alike Fresh none new r h = absurd none
note_alike Moved none new r h = absurd none
note_alike FreshStarts has new r h = and_true _ (or_false _ (rw first_key-plain at h))
note_alike MovedStarts has new r h = and_true _ (or_false _ (rw first_key-plain at h))

abbrev pub block_row : (first round node : ℕ) → Row
block_row first round node = Int (pos first) ∷ Null ∷ Int (pos round) ∷ Int (pos node) ∷ []

abbrev pub vote_row : (slot round node : ℕ) → List ℕ → Row
vote_row slot round node bytes = Int (pos slot) ∷ Null ∷ Int (pos round) ∷ Int (pos node) ∷ Blob bytes ∷ []

pub block_replaced : (l : Layout) (first round node : ℕ) (limit : Option ℕ) (mode : Mode) (now after : Database) (tally : Tally) (text : List ℕ) → now.schema ≡ schema_of l
    → Does limit mode (Int (pos first) ∷ Int (pos round) ∷ Int (pos node) ∷ []) now text None (promise_insert l) (Ok (tally, after))
    → (after.schema ≡ schema_of l) × Replaces (schema_of l) (block_tree l) (pos first) (block_row first round node) now.trees after.trees
block_replaced l first round node limit mode now after tally text has does =
    let row = block_row first round node in
    let casts : cast_row (block_on (block_tree l)) row ≡ row = rw (cast_int (pos first), cast_null, cast_int (pos round), cast_int (pos node)) refl in
    replaced (schema_of l) (block_place l) (codes "block") (block_tree l) block_columns (block_found l) (no_work l (block_tree l)) (block_alike l) promise_terms 4 (pos first) (Int (pos first) ∷ Int (pos round) ∷ Int (pos node) ∷ []) row row
    refl refl casts casts refl limit mode now after tally has text does

pub vote_replaced : (l : Layout) (slot round node : ℕ) (bytes : List ℕ) (limit : Option ℕ) (mode : Mode) (now after : Database) (tally : Tally) (text : List ℕ) → now.schema ≡ schema_of l
    → Does limit mode (Int (pos slot) ∷ Int (pos round) ∷ Int (pos node) ∷ Blob bytes ∷ []) now text None (vote_insert l) (Ok (tally, after))
    → (after.schema ≡ schema_of l) × Replaces (schema_of l) (vote_tree l) (pos slot) (vote_row slot round node bytes) now.trees after.trees
vote_replaced l slot round node bytes limit mode now after tally text has does =
    let row = vote_row slot round node bytes in
    let casts : cast_row (vote_on (vote_tree l)) row ≡ row = rw (cast_int (pos slot), cast_null, cast_int (pos round), cast_int (pos node)) refl in
    replaced (schema_of l) (vote_place l) (codes "vote") (vote_tree l) vote_columns (vote_found l) (no_work l (vote_tree l)) (vote_alike l) vote_terms 5 (pos slot) (Int (pos slot) ∷ Int (pos round) ∷ Int (pos node) ∷ Blob bytes ∷ []) row row
    refl refl casts casts refl limit mode now after tally has text does

abbrev pub start_row : (start saves : ℤ) → Row
start_row start saves = Int start ∷ Null ∷ Int saves ∷ []

abbrev pub mark_row : (member start saves : ℤ) → Row
mark_row member start saves = Int member ∷ Null ∷ Int start ∷ Int saves ∷ []

pub start_replaced : (l : Layout) → HasStarts l → (start saves : ℤ) (limit : Option ℕ) (mode : Mode) (now after : Database) (tally : Tally) (text : List ℕ) → now.schema ≡ schema_of l
    → Does limit mode (Int start ∷ Int saves ∷ []) now text None (start_insert l) (Ok (tally, after))
    → (after.schema ≡ schema_of l) × Replaces (schema_of l) (start_tree l) start (start_row start saves) now.trees after.trees
start_replaced l there start saves limit mode now after tally text has does =
    let row = start_row start saves in
    let casts : cast_row (start_on (start_tree l)) row ≡ row = rw (cast_int start, cast_null, cast_int saves) refl in
    replaced (schema_of l) (start_place l) (codes "start") (start_tree l) start_columns (start_found l there) (no_work l (start_tree l)) (start_alike l there) start_terms 3 start (Int start ∷ Int saves ∷ []) row row
    refl refl casts casts refl limit mode now after tally has text does

pub mark_replaced : (l : Layout) → HasStarts l → (member start saves : ℤ) (limit : Option ℕ) (mode : Mode) (now after : Database) (tally : Tally) (text : List ℕ) → now.schema ≡ schema_of l
    → Does limit mode (Int member ∷ Int start ∷ Int saves ∷ []) now text None (mark_insert l) (Ok (tally, after))
    → (after.schema ≡ schema_of l) × Replaces (schema_of l) (mark_tree l) member (mark_row member start saves) now.trees after.trees
mark_replaced l there member start saves limit mode now after tally text has does =
    let row = mark_row member start saves in
    let casts : cast_row (mark_on (mark_tree l)) row ≡ row = rw (cast_int member, cast_null, cast_int start, cast_int saves) refl in
    replaced (schema_of l) (mark_place l) (codes "mark") (mark_tree l) mark_columns (mark_found l there) (no_work l (mark_tree l)) (mark_alike l there) promise_terms 4 member (Int member ∷ Int start ∷ Int saves ∷ []) row row
    refl refl casts casts refl limit mode now after tally has text does

abbrev pub note_row : (id : ℤ) → (name bytes : List ℕ) → Row
note_row id name bytes = Int id ∷ Null ∷ Text name ∷ Blob bytes ∷ []

pub note_replaced : (l : Layout) → HasStarts l → (id : ℤ) (name bytes : List ℕ) (limit : Option ℕ) (mode : Mode) (now after : Database) (tally : Tally) (text : List ℕ) → now.schema ≡ schema_of l
    → Does limit mode (Int id ∷ Text name ∷ Blob bytes ∷ []) now text None (note_insert l) (Ok (tally, after))
    → (after.schema ≡ schema_of l) × Replaces (schema_of l) (note_tree l) id (note_row id name bytes) now.trees after.trees
note_replaced l there id name bytes limit mode now after tally text has does =
    let row = note_row id name bytes in
    let casts : cast_row (note_on (note_tree l)) row ≡ row = rw (cast_int id, cast_null) refl in
    replaced (schema_of l) (note_place l) (codes "note") (note_tree l) note_columns (note_found l there) (no_work l (note_tree l)) (note_alike l there) promise_terms 4 id (Int id ∷ Text name ∷ Blob bytes ∷ []) row row
    refl refl casts casts refl limit mode now after tally has text does

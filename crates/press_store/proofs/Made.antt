-- What the statements that make the tables leave.
use Rattle.std.proofs.Common.{◌≡◌, Option, ℕ, ℤ, pos, List, [], ◌∷◌, codes, filter, true, false, None, Ok, Err, Result, refl, sym, ap, ap₂, subst, ◌∙◌, arith}
use Rattle.std.specs.Prelude.{IsTrue, OnOk}
use Rattle.std.proofs.lemmas.Cmp.{tied_itself}
use Rattle.std.specs.Ordering.{is_eq}
use Rattle.sqlite.specs.declared.types.Value.{Value}
use Rattle.sqlite.specs.declared.types.Value.TheVariants.{Null, Int, Text}
use Rattle.sqlite.specs.declared.run.Mode.{Mode}
use Rattle.sqlite.specs.declared.error.Error.{Error}
use Rattle.sqlite.specs.Order.{Row, column}
use Rattle.sqlite.specs.Tree.{Trees, put_row}
use Rattle.sqlite.specs.Term.{Term, lit}
use Rattle.sqlite.specs.Schema.{Schema}
use Rattle.sqlite.specs.Table.{Table}
use Rattle.sqlite.specs.Compile.{table_defined_by}
use Rattle.sqlite.specs.Command.TheVariants.{CreateTable, Insert}
use Rattle.sqlite.specs.Source.TheVariants.{Values}
use Rattle.sqlite.specs.Change.{created, next_tree, KeepsRows}
use Rattle.sqlite.specs.Does.{Tally, Does, lacks_sequence}
use Rattle.sqlite.specs.Rows.{Written}
use Rattle.sqlite.specs.Effect.{Database}
use Rattle.sqlite.specs.Edit.{edit_of, edited, next_rowid}
use Rattle.sqlite.specs.Rowids.TheVariants.{Chosen}
use Rattle.sqlite_tied.specs.Compute.{everything}
use Rattle.sqlite.specs.Listing.{understood}
use Rattle.sqlite.proofs.Callers.{IsPlain, command_of, statement_of, runs_as, one_step}
use Rattle.sqlite.specs.State.{State, Executes, ExecutesInside, Shows, KeepsCounts, mode_of}
use Rattle.sqlite_value.proofs.OrderLemmas.{value_cmp-Text, value_cmp-Int, value_cmp_total}
use Rattle.sqlite_trees.specs.Objects.{catalog_tree}
use Rattle.sqlite_catalog.specs.Listing.{Lists}
use Rattle.press_acceptor.specs.StoreMap.{new_store}
use Rattle.press_store.specs.Making.{IsBare, IsFresh}
use Rattle.press_store.specs.Tables.{Fresh, schema_of, no_schema, make_block, make_vote, make_meta, block_on, vote_on, meta_on}
use Rattle.press_store.specs.Shown.{is_last_round, is_version, IsKept, IsOurVersion, IsEmptied, block_rows, vote_rows, meta_rows, round_at, store_of}
use Rattle.press_store.specs.Stands.{store_in}
use Rattle.press_store.proofs.Created.{IsCreate, create}
use Rattle.press_store.proofs.Maps.{nothing_saved}
use Rattle.press_store.proofs.Put.{went, same_value, cast_int, cast_null}
use Rattle.press_store.proofs.Standing.{OthersStay, stand, still_listed}
use Rattle.press_store.proofs.Versions.{as_newer}
use Rattle.press_store.proofs.Texts.{tables_defined, whole_schema}

abbrev one_table : Schema
one_table = created no_schema (block_on 0)

abbrev two_tables : Schema
two_tables = created one_table (vote_on 0)

abbrev pub insert_text : List ℕ
insert_text = codes "INSERT INTO meta (name, n) VALUES ('last_round', 0)"

abbrev pub version_text : List ℕ
version_text = codes "INSERT INTO meta (name, n) VALUES ('version', 2)"

abbrev row_terms : List ℕ → ℤ → List Term
row_terms name n = lit Null ∷ lit (Text name) ∷ lit (Int n) ∷ []

block_made : IsCreate no_schema make_block
unfolding understood everything
block_made = (refl, refl, (refl, refl))

vote_made : IsCreate one_table make_vote
unfolding understood everything
vote_made = (refl, refl, (refl, refl))

meta_made : IsCreate two_tables make_meta
unfolding understood everything
meta_made = (refl, refl, (refl, refl))

insert_is : (command_of (understood (schema_of Fresh) insert_text) ≡ Insert 2 (Values (row_terms (codes "last_round") (pos 0)) 3)) × IsPlain (understood (schema_of Fresh) insert_text)
unfolding understood everything
insert_is = (refl, (refl, refl))

version_is : (command_of (understood (schema_of Fresh) version_text) ≡ Insert 2 (Values (row_terms (codes "version") (pos 2)) 3)) × IsPlain (understood (schema_of Fresh) version_text)
unfolding understood everything
version_is = (refl, (refl, refl))

pub tables_made : (old one two new : State) (m n : ℕ) (result : Result ℕ Error) → old.now.schema ≡ no_schema → ExecutesInside 0 make_block [] old one (Ok m) → ExecutesInside 0 make_vote [] one two (Ok n) → ExecutesInside 0 make_meta [] two new result
    → OnOk result (IsBare new.now × IsTrue new.in_transaction)
tables_made old one two new m n (Err e) has first second third = tt
tables_made old one two new m n (Ok k) has first second third =
    let a = create old one m no_schema one_table (block_on 0) make_block has tables_defined.0 refl refl block_made first.0 in
    let b = create one two n one_table two_tables (vote_on 0) make_vote a.0 tables_defined.1 refl refl vote_made second.0 in
    let c = create two new k two_tables (schema_of Fresh) (meta_on 0) make_meta b.0 tables_defined.2 whole_schema refl meta_made third.0 in
    (record { schema = c.0; listed = c.3; blocks = c.2.0 ∙ b.2.0 ∙ a.1; votes = c.2.1.0 ∙ b.1; meta = c.1 }, third.1.mode)

-- ---- the rows

-- a row of meta that is inserted is put at its new number
module _ (name : List ℕ) (n : ℤ) (limit : Option ℕ) (mode : Mode) (now after : Database) (tally : Tally) (has : now.schema ≡ schema_of Fresh) (text : List ℕ)
    (does : Does limit mode [] now text None (Insert 2 (Values (row_terms name n) 3)) (Ok (tally, after))) where
  inserted : (after.trees 2 ≡ put_row (Int (next_rowid (now.trees 2)) ∷ Text name ∷ Int n ∷ []) (now.trees 2)) × OthersStay Fresh 2 now.trees after.trees × (after.schema ≡ schema_of Fresh)
  inserted =
      let db = now.trees in
      let done = went (subst (λ s. Does limit mode [] (record now { schema = s }) text None (Insert 2 (Values (row_terms name n) 3)) (Ok (tally, after))) has does) in
      let is = ap (λ (p : Tally × Database). p.1) (same_value (went (went done.2).2).2) in
      let given = went done.1 in
      let written = went (went given.2).2 in
      let counted = went written.2 in
      let trees : done.0.trees ≡ written.0 = ap (λ (it : Written). it.trees) (same_value counted.2) ∙ same_value counted.1 in
      let all : after.trees ≡ written.0 = ap (λ (d : Database). d.trees) is ∙ trees in
      let step = one_step (schema_of Fresh) _ db written.0 (edit_of db (meta_on 2) [] Chosen 0 given.0) refl written.1 in
      let edit : edited db (edit_of db (meta_on 2) [] Chosen 0 given.0) ≡ put_row (Int (next_rowid (db 2)) ∷ Text name ∷ Int n ∷ []) (db 2) = ap (λ all. edited db (edit_of db (meta_on 2) [] Chosen 0 all)) given.1.1 ∙ rw (cast_null, cast_int n) in (
        ap (λ (t : Trees). t 2) all ∙ step.rows ∙ edit,
        subst (OthersStay Fresh 2 db) (sym all) step.others,
        ap (λ (d : Database). d.schema) is,
      )

named : (id n : Value) → is_last_round (id ∷ Text (codes "last_round") ∷ n ∷ []) ≡ true
named id n = ap is_eq (tied_itself value_cmp_total (Text (codes "last_round")))

unnamed : (id n : Value) → is_last_round (id ∷ Text (codes "version") ∷ n ∷ []) ≡ false
unnamed id n = ap is_eq (value_cmp-Text (codes "version") (codes "last_round"))

versioned : (id n : Value) → is_version (id ∷ Text (codes "version") ∷ n ∷ []) ≡ true
versioned id n = ap is_eq (tied_itself value_cmp_total (Text (codes "version")))

unversioned : (id n : Value) → is_version (id ∷ Text (codes "last_round") ∷ n ∷ []) ≡ false
unversioned id n = ap is_eq (value_cmp-Text (codes "last_round") (codes "version"))

abbrev Gains : List ℕ → ℤ → State → State → Type 0
Gains name n a b = (b.now.trees 2 ≡ put_row (Int (next_rowid (a.now.trees 2)) ∷ Text name ∷ Int n ∷ []) (a.now.trees 2)) × OthersStay Fresh 2 a.now.trees b.now.trees × (b.now.schema ≡ schema_of Fresh)

version_gained : (a b : State) (count : ℕ) → a.now.schema ≡ schema_of Fresh → Executes version_text [] a b (Ok count) → Gains (codes "version") (pos 2) a b
version_gained a b count has ran =
    let text = statement_of version_text (understood (schema_of Fresh) version_text) in
    let w = runs_as version_text [] a b (schema_of Fresh) has (Insert 2 (Values (row_terms (codes "version") (pos 2)) 3)) version_is.0 version_is.1 count ran in
    inserted (codes "version") (pos 2) a.step_limit (mode_of a) a.now b.now w.tally has text w.changed

round_gained : (a b : State) (count : ℕ) → a.now.schema ≡ schema_of Fresh → Executes insert_text [] a b (Ok count) → Gains (codes "last_round") (pos 0) a b
round_gained a b count has ran =
    let text = statement_of insert_text (understood (schema_of Fresh) insert_text) in
    let w = runs_as insert_text [] a b (schema_of Fresh) has (Insert 2 (Values (row_terms (codes "last_round") (pos 0)) 3)) insert_is.0 insert_is.1 count ran in
    inserted (codes "last_round") (pos 0) a.step_limit (mode_of a) a.now b.now w.tally has text w.changed

abbrev numbered_row : ℕ → List ℕ → ℤ → Row
numbered_row id name n = Int (pos id) ∷ Text name ∷ Int n ∷ []

-- the two rows of a new table stand there in the order of their numbers
in_order : (none one two : List Row) → none ≡ [] → one ≡ put_row (Int (next_rowid none) ∷ Text (codes "version") ∷ Int (pos 2) ∷ []) none
    → two ≡ put_row (Int (next_rowid one) ∷ Text (codes "last_round") ∷ Int (pos 0) ∷ []) one → two ≡ numbered_row 1 (codes "version") (pos 2) ∷ numbered_row 2 (codes "last_round") (pos 0) ∷ []
in_order none one two empty first second =
    let alone : one ≡ numbered_row 1 (codes "version") (pos 2) ∷ [] = rw empty at first in
    let beside : two ≡ put_row (numbered_row 2 (codes "last_round") (pos 0)) (numbered_row 1 (codes "version") (pos 2) ∷ []) = rw alone at second in
    beside ∙ rw (value_cmp-Int (pos 1) (pos 2))

new_in : (db : Trees) (row : Row) → IsEmptied db → block_rows db ≡ [] → vote_rows db ≡ [] → filter is_last_round (meta_rows db) ≡ row ∷ [] → column row 2 ≡ Int (pos 0) → store_in db ≡ new_store
unfolding round_at
new_in db row emptied blocks votes one is = sym (as_newer db emptied) ∙ ap₂ (λ b v. store_of b v (meta_rows db)) blocks votes ∙ nothing_saved (meta_rows db) (rw (one, is) refl)

pub rows_made : (old mid new : State) (count : ℕ) (result : Result ℕ Error) → IsBare old.now → ExecutesInside 0 version_text [] old mid (Ok count) → ExecutesInside 0 insert_text [] mid new result
    → OnOk result (IsFresh new.now × IsTrue new.in_transaction)
rows_made old mid new count (Err e) bare one two = tt
rows_made old mid new count (Ok n) bare one two =
    let a = version_gained old mid count bare.schema one.0 in
    let b = round_gained mid new n a.2 two.0 in
    let others : OthersStay Fresh 2 old.now.trees new.now.trees = λ t other index. b.1 t other index ∙ a.1 t other index in
    let listed = still_listed Fresh old.now.trees new.now.trees (others catalog_tree (λ e. absurd (omega (arith, e))) (λ e. absurd (omega (arith, e)), tt)) bare.listed in
    let at = stand Fresh new.now.trees listed in
    let first : Row = numbered_row 1 (codes "version") (pos 2) in
    let row : Row = numbered_row 2 (codes "last_round") (pos 0) in
    let both : meta_rows new.now.trees ≡ first ∷ row ∷ [] = at.meta ∙ in_order (old.now.trees 2) (mid.now.trees 2) (new.now.trees 2) bare.meta a.0 b.0 in
    let one_row : filter is_last_round (meta_rows new.now.trees) ≡ row ∷ [] = rw (both, unnamed (column first 0) (column first 2), named (column row 0) (column row 2)) in
    let one_version : filter is_version (meta_rows new.now.trees) ≡ first ∷ [] = rw (both, versioned (column first 0) (column first 2), unversioned (column row 0) (column row 2)) in
    let blocks = at.blocks ∙ others 0 (λ e. absurd (omega (arith, e))) (λ e. absurd (omega (arith, e)), tt) ∙ bare.blocks in
    let votes = at.votes ∙ others 1 (λ e. absurd (omega (arith, e))) (λ e. absurd (omega (arith, e)), tt) ∙ bare.votes in (
      record {
        tables = record { schema = b.2; listed = listed; emptied = at.old; kept = record { row = row; one = one_row; id = pos 2; numbered = refl } };
        version = record { row = first; one = one_version; number = refl };
        new = new_in new.now.trees row at.old blocks votes one_row refl;
      },
      two.1.mode,
    )

-- after the commit
pub fresh_kept : {X : Type 0} (last end : State) (result : Result X Error) → IsFresh last.now → OnOk result (IsTrue last.in_transaction × Shows last end last.now last.now false × KeepsCounts last end × (end.marks ≡ []))
    → OnOk result (IsTrue end.is_open × IsFresh end.now × (end.now ≡ end.committed))
fresh_kept last end (Err e) fresh h = tt
fresh_kept last end (Ok x) fresh h = (h.1.is_open, subst IsFresh (sym h.1.now_is) fresh, h.1.now_is ∙ sym h.1.committed_is)

pub fresh_left : (d : Database) (db : Trees) → IsFresh d → db ≡ d.trees → IsFresh (record { schema = schema_of Fresh; trees = db })
fresh_left d db fresh is = record {
  tables = record {
    schema = refl;
    listed = subst (λ (t : Trees). Lists (t catalog_tree) (schema_of Fresh)) (sym is) fresh.tables.listed;
    emptied = subst IsEmptied (sym is) fresh.tables.emptied;
    kept = subst IsKept (sym is) fresh.tables.kept;
  };
  version = subst IsOurVersion (sym is) fresh.version;
  new = ap store_in is ∙ fresh.new;
}

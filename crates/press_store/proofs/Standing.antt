-- The tables of a store by their names, in each layout.
use Rattle.std.proofs.Common.{◌≡◌, ◌-◌, ℕ, List, [], ◌∷◌, codes, filter, Bool, false, Some, refl, sym, ap, subst, ◌∙◌, inl, inr, arith}
use Rattle.std.specs.Prelude.{◌&&◌, ◌==◌, find, option_map}
use Rattle.std.specs.List.{AllZip}
use Rattle.std.specs.Ordering.{is_eq, nat_cmp}
use Rattle.std.specs.Cmp.Lexicographic.{slice_cmp}
use Rattle.std.proofs.lemmas.Bool.{cases_Bool, eqb-false}
use Rattle.sqlite.specs.declared.types.Value.TheVariants.{Text}
use Rattle.sqlite.specs.Order.{Row, column, value_cmp}
use Rattle.sqlite.specs.Tree.{Trees, rowid}
use Rattle.sqlite.specs.Table.{Table}
use Rattle.sqlite.specs.Schema.{Schema}
use Rattle.sqlite.specs.Effect.{Database}
use Rattle.sqlite.specs.Edit.{IsNoIndex}
use Rattle.sqlite_value.proofs.OrderLemmas.{value_cmp-Text}
use Rattle.sqlite_trees.specs.Objects.{catalog_tree, number_in as number_of}
use Rattle.sqlite_catalog.specs.Listing.{Lists, IsTableRow, is_table_row}
use Rattle.press_store.specs.Tables.{Layout, Fresh, Moved, FreshStarts, MovedStarts, HasStarts, schema_of, block_tree, vote_tree, meta_tree, key_tree, start_tree, mark_tree, note_tree}
use Rattle.press_store.specs.Named.{rows_at, rows_of}
use Rattle.press_store.specs.Starts.{start_rows, mark_rows, note_rows, starts_in}
use Rattle.press_store.specs.Shown.{block_rows, vote_rows, meta_rows, old_rows, IsKept, is_last_round}
use Rattle.press_store.specs.Attempt.{AreTables}

-- ---- one table by its name

abbrev name_is : List ℕ → Table → Bool
name_is name t = is_eq (slice_cmp nat_cmp t.name name)

among : (p q : Row → Bool) (rows : List Row) → find (λ r. p r && q r) rows ≡ find q (filter p rows)
among p q [] = refl
among p q (r ∷ rows) = elim (cases_Bool (p r)) [
  | inl on ↦ rw (on, among p q rows)
  | inr off ↦ rw (off, among p q rows)
]

at_row : (row : Row) (t : Table) → IsTableRow row t → number_of (rowid row) - 1 ≡ t.tree
at_row row t h = rw h.described.id (omega arith)

listed_at : (name : List ℕ) (rows : List Row) (ts : List Table) → AllZip IsTableRow rows ts → option_map (λ r. number_of (rowid r) - 1) (find (λ r. is_eq (value_cmp (column r 2) (Text name))) rows) ≡ option_map (λ (t : Table). t.tree) (find (name_is name) ts)
listed_at name [] [] h = refl
listed_at name [] (t ∷ ts) h = absurd h
listed_at name (r ∷ rows) [] h = absurd h
listed_at name (r ∷ rows) (t ∷ ts) h =
    let same : is_eq (value_cmp (column r 2) (Text name)) ≡ name_is name t = rw (h.0.described.name_is, value_cmp-Text t.name name) in
    elim (cases_Bool (name_is name t)) [
      | inl on ↦ rw (same, on) (ap Some (at_row r t h.0))
      | inr off ↦ rw (same, off) (listed_at name rows ts h.1)
    ]

-- the rows under a name are those of the tree that the schema has for it
pub table_at : (schema : Schema) (name : List ℕ) (db : Trees) → Lists (db catalog_tree) schema → rows_of name db ≡ rows_at db (option_map (λ (t : Table). t.tree) (find (name_is name) schema.tables))
unfolding rows_of
table_at schema name db lists =
    ap (rows_at db) (ap (option_map (λ r. number_of (rowid r) - 1)) (among is_table_row (λ r. is_eq (value_cmp (column r 2) (Text name))) (db catalog_tree)) ∙ listed_at name (filter is_table_row (db catalog_tree)) schema.tables lists.listed.tables)

-- ---- those of a store

abbrev pub old_in : Layout → Trees → List Row
old_in Fresh db = []
old_in Moved db = db 0
old_in FreshStarts db = []
old_in MovedStarts db = db 0

abbrev pub starts_at : Layout → ℕ → Trees → List Row
starts_at Fresh tree db = []
starts_at Moved tree db = []
starts_at FreshStarts tree db = db tree
starts_at MovedStarts tree db = db tree

-- where the tables stand
pub record Stand (l : Layout) (db : Trees) : Type 0 where
  pub blocks : block_rows db ≡ db (block_tree l)
  pub votes : vote_rows db ≡ db (vote_tree l)
  pub meta : meta_rows db ≡ db (meta_tree l)
  pub old : old_rows db ≡ old_in l db
  pub starts : start_rows db ≡ starts_at l (start_tree l) db
  pub marks : mark_rows db ≡ starts_at l (mark_tree l) db
  pub notes : note_rows db ≡ starts_at l (note_tree l) db

pub stand : (l : Layout) (db : Trees) → Lists (db catalog_tree) (schema_of l) → Stand l db
stand Fresh db lists = record {
  blocks = table_at (schema_of Fresh) (codes "block") db lists;
  votes = table_at (schema_of Fresh) (codes "vote") db lists;
  meta = table_at (schema_of Fresh) (codes "meta") db lists;
  old = table_at (schema_of Fresh) (codes "promise") db lists;
  starts = table_at (schema_of Fresh) (codes "start") db lists;
  marks = table_at (schema_of Fresh) (codes "mark") db lists;
  notes = table_at (schema_of Fresh) (codes "note") db lists;
}
stand Moved db lists = record {
  blocks = table_at (schema_of Moved) (codes "block") db lists;
  votes = table_at (schema_of Moved) (codes "vote") db lists;
  meta = table_at (schema_of Moved) (codes "meta") db lists;
  old = table_at (schema_of Moved) (codes "promise") db lists;
  starts = table_at (schema_of Moved) (codes "start") db lists;
  marks = table_at (schema_of Moved) (codes "mark") db lists;
  notes = table_at (schema_of Moved) (codes "note") db lists;
}
stand FreshStarts db lists = record {
  blocks = table_at (schema_of FreshStarts) (codes "block") db lists;
  votes = table_at (schema_of FreshStarts) (codes "vote") db lists;
  meta = table_at (schema_of FreshStarts) (codes "meta") db lists;
  old = table_at (schema_of FreshStarts) (codes "promise") db lists;
  starts = table_at (schema_of FreshStarts) (codes "start") db lists;
  marks = table_at (schema_of FreshStarts) (codes "mark") db lists;
  notes = table_at (schema_of FreshStarts) (codes "note") db lists;
}
stand MovedStarts db lists = record {
  blocks = table_at (schema_of MovedStarts) (codes "block") db lists;
  votes = table_at (schema_of MovedStarts) (codes "vote") db lists;
  meta = table_at (schema_of MovedStarts) (codes "meta") db lists;
  old = table_at (schema_of MovedStarts) (codes "promise") db lists;
  starts = table_at (schema_of MovedStarts) (codes "start") db lists;
  marks = table_at (schema_of MovedStarts) (codes "mark") db lists;
  notes = table_at (schema_of MovedStarts) (codes "note") db lists;
}

-- ---- a change of one table leaves the others

-- each tree but this one and the indexes is as it was
abbrev pub OthersStay : Layout → ℕ → Trees → Trees → Type 0
OthersStay l tree old new = (t : ℕ) → (t ≡ tree → ⊥) → IsNoIndex (schema_of l) t → new t ≡ old t

stays : (l : Layout) (tree t : ℕ) (old new : Trees) → (t == tree) ≡ false → (key_tree l == t) ≡ false → OthersStay l tree old new → new t ≡ old t
stays l tree t old new other index h = h t (eqb-false t tree other) (eqb-false (key_tree l) t index, tt)

pub still_listed : (l : Layout) (old new : Trees) → new catalog_tree ≡ old catalog_tree → Lists (old catalog_tree) (schema_of l) → Lists (new catalog_tree) (schema_of l)
still_listed l old new same lists = subst (λ rows. Lists rows (schema_of l)) (sym same) lists

-- the rows of the table of blocks are changed
pub record BlocksChange (old new : Trees) : Type 0 where
  pub votes : vote_rows new ≡ vote_rows old
  pub meta : meta_rows new ≡ meta_rows old
  pub old_stay : old_rows new ≡ old_rows old
  pub starts : start_rows new ≡ start_rows old
  pub marks : mark_rows new ≡ mark_rows old
  pub notes : note_rows new ≡ note_rows old
  pub listed : new catalog_tree ≡ old catalog_tree

pub record VotesChange (old new : Trees) : Type 0 where
  pub blocks : block_rows new ≡ block_rows old
  pub meta : meta_rows new ≡ meta_rows old
  pub old_stay : old_rows new ≡ old_rows old
  pub starts : start_rows new ≡ start_rows old
  pub marks : mark_rows new ≡ mark_rows old
  pub notes : note_rows new ≡ note_rows old
  pub listed : new catalog_tree ≡ old catalog_tree

pub record MetaChange (old new : Trees) : Type 0 where
  pub blocks : block_rows new ≡ block_rows old
  pub votes : vote_rows new ≡ vote_rows old
  pub old_stay : old_rows new ≡ old_rows old
  pub starts : start_rows new ≡ start_rows old
  pub marks : mark_rows new ≡ mark_rows old
  pub notes : note_rows new ≡ note_rows old
  pub listed : new catalog_tree ≡ old catalog_tree

pub record StartsChange (old new : Trees) : Type 0 where
  pub blocks : block_rows new ≡ block_rows old
  pub votes : vote_rows new ≡ vote_rows old
  pub meta : meta_rows new ≡ meta_rows old
  pub old_stay : old_rows new ≡ old_rows old
  pub marks : mark_rows new ≡ mark_rows old
  pub notes : note_rows new ≡ note_rows old
  pub listed : new catalog_tree ≡ old catalog_tree

pub record MarksChange (old new : Trees) : Type 0 where
  pub blocks : block_rows new ≡ block_rows old
  pub votes : vote_rows new ≡ vote_rows old
  pub meta : meta_rows new ≡ meta_rows old
  pub old_stay : old_rows new ≡ old_rows old
  pub starts : start_rows new ≡ start_rows old
  pub notes : note_rows new ≡ note_rows old
  pub listed : new catalog_tree ≡ old catalog_tree

pub record NotesChange (old new : Trees) : Type 0 where
  pub blocks : block_rows new ≡ block_rows old
  pub votes : vote_rows new ≡ vote_rows old
  pub meta : meta_rows new ≡ meta_rows old
  pub old_stay : old_rows new ≡ old_rows old
  pub starts : start_rows new ≡ start_rows old
  pub marks : mark_rows new ≡ mark_rows old
  pub listed : new catalog_tree ≡ old catalog_tree

module _ (old new : Trees) where
  pub blocks_change : (l : Layout) → Lists (old catalog_tree) (schema_of l) → OthersStay l (block_tree l) old new → BlocksChange old new
  blocks_change Fresh lists h =
      let listed = stays Fresh 0 catalog_tree old new refl refl h in
      let was = stand Fresh old lists in
      let is = stand Fresh new (still_listed Fresh old new listed lists) in
      record {
        votes = is.votes ∙ stays Fresh 0 1 old new refl refl h ∙ sym was.votes;
        meta = is.meta ∙ stays Fresh 0 2 old new refl refl h ∙ sym was.meta;
        old_stay = is.old ∙ sym was.old;
        starts = is.starts ∙ sym was.starts;
        marks = is.marks ∙ sym was.marks;
        notes = is.notes ∙ sym was.notes;
        listed = listed;
      }
  blocks_change Moved lists h =
      let listed = stays Moved 3 catalog_tree old new refl refl h in
      let was = stand Moved old lists in
      let is = stand Moved new (still_listed Moved old new listed lists) in
      record {
        votes = is.votes ∙ stays Moved 3 4 old new refl refl h ∙ sym was.votes;
        meta = is.meta ∙ stays Moved 3 1 old new refl refl h ∙ sym was.meta;
        old_stay = is.old ∙ stays Moved 3 0 old new refl refl h ∙ sym was.old;
        starts = is.starts ∙ sym was.starts;
        marks = is.marks ∙ sym was.marks;
        notes = is.notes ∙ sym was.notes;
        listed = listed;
      }
  blocks_change FreshStarts lists h =
      let listed = stays FreshStarts 0 catalog_tree old new refl refl h in
      let was = stand FreshStarts old lists in
      let is = stand FreshStarts new (still_listed FreshStarts old new listed lists) in
      record {
        votes = is.votes ∙ stays FreshStarts 0 1 old new refl refl h ∙ sym was.votes;
        meta = is.meta ∙ stays FreshStarts 0 2 old new refl refl h ∙ sym was.meta;
        old_stay = is.old ∙ sym was.old;
        starts = is.starts ∙ stays FreshStarts 0 4 old new refl refl h ∙ sym was.starts;
        marks = is.marks ∙ stays FreshStarts 0 5 old new refl refl h ∙ sym was.marks;
        notes = is.notes ∙ stays FreshStarts 0 6 old new refl refl h ∙ sym was.notes;
        listed = listed;
      }
  blocks_change MovedStarts lists h =
      let listed = stays MovedStarts 3 catalog_tree old new refl refl h in
      let was = stand MovedStarts old lists in
      let is = stand MovedStarts new (still_listed MovedStarts old new listed lists) in
      record {
        votes = is.votes ∙ stays MovedStarts 3 4 old new refl refl h ∙ sym was.votes;
        meta = is.meta ∙ stays MovedStarts 3 1 old new refl refl h ∙ sym was.meta;
        old_stay = is.old ∙ stays MovedStarts 3 0 old new refl refl h ∙ sym was.old;
        starts = is.starts ∙ stays MovedStarts 3 5 old new refl refl h ∙ sym was.starts;
        marks = is.marks ∙ stays MovedStarts 3 6 old new refl refl h ∙ sym was.marks;
        notes = is.notes ∙ stays MovedStarts 3 7 old new refl refl h ∙ sym was.notes;
        listed = listed;
      }

  pub votes_change : (l : Layout) → Lists (old catalog_tree) (schema_of l) → OthersStay l (vote_tree l) old new → VotesChange old new
  votes_change Fresh lists h =
      let listed = stays Fresh 1 catalog_tree old new refl refl h in
      let was = stand Fresh old lists in
      let is = stand Fresh new (still_listed Fresh old new listed lists) in
      record {
        blocks = is.blocks ∙ stays Fresh 1 0 old new refl refl h ∙ sym was.blocks;
        meta = is.meta ∙ stays Fresh 1 2 old new refl refl h ∙ sym was.meta;
        old_stay = is.old ∙ sym was.old;
        starts = is.starts ∙ sym was.starts;
        marks = is.marks ∙ sym was.marks;
        notes = is.notes ∙ sym was.notes;
        listed = listed;
      }
  votes_change Moved lists h =
      let listed = stays Moved 4 catalog_tree old new refl refl h in
      let was = stand Moved old lists in
      let is = stand Moved new (still_listed Moved old new listed lists) in
      record {
        blocks = is.blocks ∙ stays Moved 4 3 old new refl refl h ∙ sym was.blocks;
        meta = is.meta ∙ stays Moved 4 1 old new refl refl h ∙ sym was.meta;
        old_stay = is.old ∙ stays Moved 4 0 old new refl refl h ∙ sym was.old;
        starts = is.starts ∙ sym was.starts;
        marks = is.marks ∙ sym was.marks;
        notes = is.notes ∙ sym was.notes;
        listed = listed;
      }
  votes_change FreshStarts lists h =
      let listed = stays FreshStarts 1 catalog_tree old new refl refl h in
      let was = stand FreshStarts old lists in
      let is = stand FreshStarts new (still_listed FreshStarts old new listed lists) in
      record {
        blocks = is.blocks ∙ stays FreshStarts 1 0 old new refl refl h ∙ sym was.blocks;
        meta = is.meta ∙ stays FreshStarts 1 2 old new refl refl h ∙ sym was.meta;
        old_stay = is.old ∙ sym was.old;
        starts = is.starts ∙ stays FreshStarts 1 4 old new refl refl h ∙ sym was.starts;
        marks = is.marks ∙ stays FreshStarts 1 5 old new refl refl h ∙ sym was.marks;
        notes = is.notes ∙ stays FreshStarts 1 6 old new refl refl h ∙ sym was.notes;
        listed = listed;
      }
  votes_change MovedStarts lists h =
      let listed = stays MovedStarts 4 catalog_tree old new refl refl h in
      let was = stand MovedStarts old lists in
      let is = stand MovedStarts new (still_listed MovedStarts old new listed lists) in
      record {
        blocks = is.blocks ∙ stays MovedStarts 4 3 old new refl refl h ∙ sym was.blocks;
        meta = is.meta ∙ stays MovedStarts 4 1 old new refl refl h ∙ sym was.meta;
        old_stay = is.old ∙ stays MovedStarts 4 0 old new refl refl h ∙ sym was.old;
        starts = is.starts ∙ stays MovedStarts 4 5 old new refl refl h ∙ sym was.starts;
        marks = is.marks ∙ stays MovedStarts 4 6 old new refl refl h ∙ sym was.marks;
        notes = is.notes ∙ stays MovedStarts 4 7 old new refl refl h ∙ sym was.notes;
        listed = listed;
      }

  pub meta_change : (l : Layout) → Lists (old catalog_tree) (schema_of l) → OthersStay l (meta_tree l) old new → MetaChange old new
  meta_change Fresh lists h =
      let listed = stays Fresh 2 catalog_tree old new refl refl h in
      let was = stand Fresh old lists in
      let is = stand Fresh new (still_listed Fresh old new listed lists) in
      record {
        blocks = is.blocks ∙ stays Fresh 2 0 old new refl refl h ∙ sym was.blocks;
        votes = is.votes ∙ stays Fresh 2 1 old new refl refl h ∙ sym was.votes;
        old_stay = is.old ∙ sym was.old;
        starts = is.starts ∙ sym was.starts;
        marks = is.marks ∙ sym was.marks;
        notes = is.notes ∙ sym was.notes;
        listed = listed;
      }
  meta_change Moved lists h =
      let listed = stays Moved 1 catalog_tree old new refl refl h in
      let was = stand Moved old lists in
      let is = stand Moved new (still_listed Moved old new listed lists) in
      record {
        blocks = is.blocks ∙ stays Moved 1 3 old new refl refl h ∙ sym was.blocks;
        votes = is.votes ∙ stays Moved 1 4 old new refl refl h ∙ sym was.votes;
        old_stay = is.old ∙ stays Moved 1 0 old new refl refl h ∙ sym was.old;
        starts = is.starts ∙ sym was.starts;
        marks = is.marks ∙ sym was.marks;
        notes = is.notes ∙ sym was.notes;
        listed = listed;
      }
  meta_change FreshStarts lists h =
      let listed = stays FreshStarts 2 catalog_tree old new refl refl h in
      let was = stand FreshStarts old lists in
      let is = stand FreshStarts new (still_listed FreshStarts old new listed lists) in
      record {
        blocks = is.blocks ∙ stays FreshStarts 2 0 old new refl refl h ∙ sym was.blocks;
        votes = is.votes ∙ stays FreshStarts 2 1 old new refl refl h ∙ sym was.votes;
        old_stay = is.old ∙ sym was.old;
        starts = is.starts ∙ stays FreshStarts 2 4 old new refl refl h ∙ sym was.starts;
        marks = is.marks ∙ stays FreshStarts 2 5 old new refl refl h ∙ sym was.marks;
        notes = is.notes ∙ stays FreshStarts 2 6 old new refl refl h ∙ sym was.notes;
        listed = listed;
      }
  meta_change MovedStarts lists h =
      let listed = stays MovedStarts 1 catalog_tree old new refl refl h in
      let was = stand MovedStarts old lists in
      let is = stand MovedStarts new (still_listed MovedStarts old new listed lists) in
      record {
        blocks = is.blocks ∙ stays MovedStarts 1 3 old new refl refl h ∙ sym was.blocks;
        votes = is.votes ∙ stays MovedStarts 1 4 old new refl refl h ∙ sym was.votes;
        old_stay = is.old ∙ stays MovedStarts 1 0 old new refl refl h ∙ sym was.old;
        starts = is.starts ∙ stays MovedStarts 1 5 old new refl refl h ∙ sym was.starts;
        marks = is.marks ∙ stays MovedStarts 1 6 old new refl refl h ∙ sym was.marks;
        notes = is.notes ∙ stays MovedStarts 1 7 old new refl refl h ∙ sym was.notes;
        listed = listed;
      }

  pub starts_change : (l : Layout) → HasStarts l → Lists (old catalog_tree) (schema_of l) → OthersStay l (start_tree l) old new → StartsChange old new
  starts_change Fresh none lists h = absurd none
  starts_change Moved none lists h = absurd none
  starts_change FreshStarts has lists h =
      let listed = stays FreshStarts 4 catalog_tree old new refl refl h in
      let was = stand FreshStarts old lists in
      let is = stand FreshStarts new (still_listed FreshStarts old new listed lists) in
      record {
        blocks = is.blocks ∙ stays FreshStarts 4 0 old new refl refl h ∙ sym was.blocks;
        votes = is.votes ∙ stays FreshStarts 4 1 old new refl refl h ∙ sym was.votes;
        meta = is.meta ∙ stays FreshStarts 4 2 old new refl refl h ∙ sym was.meta;
        old_stay = is.old ∙ sym was.old;
        marks = is.marks ∙ stays FreshStarts 4 5 old new refl refl h ∙ sym was.marks;
        notes = is.notes ∙ stays FreshStarts 4 6 old new refl refl h ∙ sym was.notes;
        listed = listed;
      }
  starts_change MovedStarts has lists h =
      let listed = stays MovedStarts 5 catalog_tree old new refl refl h in
      let was = stand MovedStarts old lists in
      let is = stand MovedStarts new (still_listed MovedStarts old new listed lists) in
      record {
        blocks = is.blocks ∙ stays MovedStarts 5 3 old new refl refl h ∙ sym was.blocks;
        votes = is.votes ∙ stays MovedStarts 5 4 old new refl refl h ∙ sym was.votes;
        meta = is.meta ∙ stays MovedStarts 5 1 old new refl refl h ∙ sym was.meta;
        old_stay = is.old ∙ stays MovedStarts 5 0 old new refl refl h ∙ sym was.old;
        marks = is.marks ∙ stays MovedStarts 5 6 old new refl refl h ∙ sym was.marks;
        notes = is.notes ∙ stays MovedStarts 5 7 old new refl refl h ∙ sym was.notes;
        listed = listed;
      }

  pub marks_change : (l : Layout) → HasStarts l → Lists (old catalog_tree) (schema_of l) → OthersStay l (mark_tree l) old new → MarksChange old new
  marks_change Fresh none lists h = absurd none
  marks_change Moved none lists h = absurd none
  marks_change FreshStarts has lists h =
      let listed = stays FreshStarts 5 catalog_tree old new refl refl h in
      let was = stand FreshStarts old lists in
      let is = stand FreshStarts new (still_listed FreshStarts old new listed lists) in
      record {
        blocks = is.blocks ∙ stays FreshStarts 5 0 old new refl refl h ∙ sym was.blocks;
        votes = is.votes ∙ stays FreshStarts 5 1 old new refl refl h ∙ sym was.votes;
        meta = is.meta ∙ stays FreshStarts 5 2 old new refl refl h ∙ sym was.meta;
        old_stay = is.old ∙ sym was.old;
        starts = is.starts ∙ stays FreshStarts 5 4 old new refl refl h ∙ sym was.starts;
        notes = is.notes ∙ stays FreshStarts 5 6 old new refl refl h ∙ sym was.notes;
        listed = listed;
      }
  marks_change MovedStarts has lists h =
      let listed = stays MovedStarts 6 catalog_tree old new refl refl h in
      let was = stand MovedStarts old lists in
      let is = stand MovedStarts new (still_listed MovedStarts old new listed lists) in
      record {
        blocks = is.blocks ∙ stays MovedStarts 6 3 old new refl refl h ∙ sym was.blocks;
        votes = is.votes ∙ stays MovedStarts 6 4 old new refl refl h ∙ sym was.votes;
        meta = is.meta ∙ stays MovedStarts 6 1 old new refl refl h ∙ sym was.meta;
        old_stay = is.old ∙ stays MovedStarts 6 0 old new refl refl h ∙ sym was.old;
        starts = is.starts ∙ stays MovedStarts 6 5 old new refl refl h ∙ sym was.starts;
        notes = is.notes ∙ stays MovedStarts 6 7 old new refl refl h ∙ sym was.notes;
        listed = listed;
      }

  pub notes_change : (l : Layout) → HasStarts l → Lists (old catalog_tree) (schema_of l) → OthersStay l (note_tree l) old new → NotesChange old new
  notes_change Fresh none lists h = absurd none
  notes_change Moved none lists h = absurd none
  notes_change FreshStarts has lists h =
      let listed = stays FreshStarts 6 catalog_tree old new refl refl h in
      let was = stand FreshStarts old lists in
      let is = stand FreshStarts new (still_listed FreshStarts old new listed lists) in
      record {
        blocks = is.blocks ∙ stays FreshStarts 6 0 old new refl refl h ∙ sym was.blocks;
        votes = is.votes ∙ stays FreshStarts 6 1 old new refl refl h ∙ sym was.votes;
        meta = is.meta ∙ stays FreshStarts 6 2 old new refl refl h ∙ sym was.meta;
        old_stay = is.old ∙ sym was.old;
        starts = is.starts ∙ stays FreshStarts 6 4 old new refl refl h ∙ sym was.starts;
        marks = is.marks ∙ stays FreshStarts 6 5 old new refl refl h ∙ sym was.marks;
        listed = listed;
      }
  notes_change MovedStarts has lists h =
      let listed = stays MovedStarts 7 catalog_tree old new refl refl h in
      let was = stand MovedStarts old lists in
      let is = stand MovedStarts new (still_listed MovedStarts old new listed lists) in
      record {
        blocks = is.blocks ∙ stays MovedStarts 7 3 old new refl refl h ∙ sym was.blocks;
        votes = is.votes ∙ stays MovedStarts 7 4 old new refl refl h ∙ sym was.votes;
        meta = is.meta ∙ stays MovedStarts 7 1 old new refl refl h ∙ sym was.meta;
        old_stay = is.old ∙ stays MovedStarts 7 0 old new refl refl h ∙ sym was.old;
        starts = is.starts ∙ stays MovedStarts 7 5 old new refl refl h ∙ sym was.starts;
        marks = is.marks ∙ stays MovedStarts 7 6 old new refl refl h ∙ sym was.marks;
        listed = listed;
      }

-- what tables say of starts that stay is the same
pub same_starts : (old new : Trees) → start_rows new ≡ start_rows old → mark_rows new ≡ mark_rows old → note_rows new ≡ note_rows old → starts_in new ≡ starts_in old
unfolding starts_in
same_starts old new starts heard notes = rw (starts, heard, notes) refl

-- ---- tables stay tables

pub kept_still : (old new : Trees) → meta_rows new ≡ meta_rows old → IsKept old → IsKept new
kept_still old new same kept = record { row = kept.row; one = ap (filter is_last_round) same ∙ kept.one; id = kept.id; numbered = kept.numbered }

pub tables_still : (l : Layout) (old new : Database) → new.schema ≡ schema_of l → new.trees catalog_tree ≡ old.trees catalog_tree → old_rows new.trees ≡ old_rows old.trees → IsKept new.trees → AreTables l old → AreTables l new
tables_still l old new schema listed same kept h = record {
  schema = schema;
  listed = still_listed l old.trees new.trees listed h.listed;
  emptied = same ∙ h.emptied;
  kept = kept;
}

-- What the queries on the tables of starts find.
use Rattle.std.proofs.Common.{◌≡◌, ℕ, pos, List, [], ◌∷◌, map, filter, true, Some, None, Ok, Err, Result, Vec, refl, sym, ap, subst, ◌∙◌, inl, inr, arith}
use Rattle.std.specs.Prelude.{IsTrue, IfOk}
use Rattle.std.specs.declared.alloc.Global.{Global}
use Rattle.std.specs.List.Sorted.{IsPermutation}
use Rattle.std.proofs.lemmas.List.Sorted.{length_permutation}
use Rattle.std.proofs.lemmas.Bool.{cases_Bool}
use mathlib.Core.Path.{fun_ext}
use Rattle.sqlite.specs.declared.error.Error.{Error}
use Rattle.sqlite.specs.declared.types.Value.TheVariants.{Int}
use Rattle.sqlite.specs.Store.{Ghosts}
use Rattle.sqlite.specs.Order.{Row, column}
use Rattle.sqlite.specs.Tree.{has_rowid, rowid}
use Rattle.sqlite.specs.Term.{col}
use Rattle.sqlite.specs.Command.{Command}
use Rattle.sqlite.specs.Effect.{Database, Answers, Reads}
use Rattle.sqlite.specs.State.{State, HasCleanDisk}
use Rattle.sqlite.specs.Held.{Held, state}
use Rattle.sqlite.proofs.Callers.{one_permutation}
use Rattle.press_store.specs.Tables.{Layout, Fresh, Moved, FreshStarts, MovedStarts, HasStarts, schema_of, start_tree, mark_tree, note_tree}
use Rattle.press_store.specs.Owned.{signed_number}
use Rattle.press_store.specs.Noted.{is_note}
use Rattle.press_store.specs.Starts.{is_start, is_member, saves_at, heard_at, notes_at, saves_in, mark_in, note_in, shown_saves, shown_mark, shown_note, start_rows, mark_rows, note_rows, starts_in}
use Rattle.press_store.specs.Counting.{LacksStarts}
use Rattle.press_store.specs.Attempt.{AreTables, Looked, Queries, Ready}
use Rattle.press_store.specs.Adopting.{OnlyLooks}
use Rattle.press_store.proofs.Looked.{fewer, looks_only, same_committed, sees}
use Rattle.press_store.proofs.Queries.{equals_int, picked, plain_start, plain_mark, plain_note}
use Rattle.press_store.proofs.Saved.{not_run, same_kept, same_ready}
use Rattle.press_store.proofs.Standing.{stand}
use Rattle.press_store.proofs.StartPuts.{start_at, mark_at, note_at}
use Rattle.press_store.proofs.Texts.{IsStartsQuery, is_equal_to, saves_query, mark_query, note_query}

-- ---- one row

saves_permuted : (xs rows : List Row) → IsPermutation (map (λ r. column r 2 ∷ []) xs) rows → shown_saves rows ≡ saves_in xs
saves_permuted [] [] h = refl
saves_permuted [] (y ∷ ys) h = absurd (omega (arith, length_permutation _ _ h))
saves_permuted (x ∷ []) rows h = ap shown_saves (one_permutation (column x 2 ∷ []) rows h)
saves_permuted (x ∷ w ∷ xs) [] h = absurd (omega (arith, length_permutation _ _ h))
saves_permuted (x ∷ w ∷ xs) (y ∷ []) h = absurd (omega (arith, length_permutation _ _ h))
saves_permuted (x ∷ w ∷ xs) (y ∷ z ∷ ys) h = refl

mark_permuted : (xs rows : List Row) → IsPermutation (map (λ r. column r 2 ∷ column r 3 ∷ []) xs) rows → shown_mark rows ≡ mark_in xs
mark_permuted [] [] h = refl
mark_permuted [] (y ∷ ys) h = absurd (omega (arith, length_permutation _ _ h))
mark_permuted (x ∷ []) rows h = ap shown_mark (one_permutation (column x 2 ∷ column x 3 ∷ []) rows h)
mark_permuted (x ∷ w ∷ xs) [] h = absurd (omega (arith, length_permutation _ _ h))
mark_permuted (x ∷ w ∷ xs) (y ∷ []) h = absurd (omega (arith, length_permutation _ _ h))
mark_permuted (x ∷ w ∷ xs) (y ∷ z ∷ ys) h = refl

note_permuted : (xs rows : List Row) → IsPermutation (map (λ r. column r 3 ∷ []) xs) rows → shown_note rows ≡ note_in xs
note_permuted [] [] h = refl
note_permuted [] (y ∷ ys) h = absurd (omega (arith, length_permutation _ _ h))
note_permuted (x ∷ []) rows h = ap shown_note (one_permutation (column x 3 ∷ []) rows h)
note_permuted (x ∷ w ∷ xs) [] h = absurd (omega (arith, length_permutation _ _ h))
note_permuted (x ∷ w ∷ xs) (y ∷ []) h = absurd (omega (arith, length_permutation _ _ h))
note_permuted (x ∷ w ∷ xs) (y ∷ z ∷ ys) h = refl

-- ---- over the tables of starts

module _ (l : Layout) (there : HasStarts l) (db : Database) (rows : List Row) (has : AreTables l db) where
  pub saves_shown : (start : ℕ) → is_start start ≡ true → Answers db (record { lets = []; body = saves_query l }) (Int (signed_number start) ∷ []) rows → shown_saves rows ≡ (starts_in db.trees).saves start
  unfolding starts_in saves_at
  saves_shown start ok h =
      let id = signed_number start in
      let f : Row → Row = λ r. column r 2 ∷ [] in
      let found = picked (start_tree l) (is_equal_to (col 1 0) (col 0 0)) (col 1 2 ∷ []) db (Int id ∷ []) rows (plain_start l db.trees) h in
      let table = sym (start_at l there db.trees) ∙ sym (stand l db.trees has.listed).starts in
      let same = ap (λ p. map f (filter p (db.trees (start_tree l)))) (fun_ext (λ r. equals_int (column r 0) id)) ∙ ap (λ xs. map f (filter (has_rowid id) xs)) table in
      rw ok (saves_permuted (filter (has_rowid id) (start_rows db.trees)) rows (subst (λ xs. IsPermutation xs rows) same found))

  pub mark_shown : (member : ℕ) → is_member member ≡ true → Answers db (record { lets = []; body = mark_query l }) (Int (pos member) ∷ []) rows → shown_mark rows ≡ (starts_in db.trees).heard member
  unfolding starts_in heard_at
  mark_shown member ok h =
      let f : Row → Row = λ r. column r 2 ∷ column r 3 ∷ [] in
      let found = picked (mark_tree l) (is_equal_to (col 1 0) (col 0 0)) (col 1 2 ∷ col 1 3 ∷ []) db (Int (pos member) ∷ []) rows (plain_mark l db.trees) h in
      let table = sym (mark_at l there db.trees) ∙ sym (stand l db.trees has.listed).marks in
      let same = ap (λ p. map f (filter p (db.trees (mark_tree l)))) (fun_ext (λ r. equals_int (column r 0) (pos member))) ∙ ap (λ xs. map f (filter (has_rowid (pos member)) xs)) table in
      rw ok (mark_permuted (filter (has_rowid (pos member)) (mark_rows db.trees)) rows (subst (λ xs. IsPermutation xs rows) same found))

  pub note_shown : (id : ℕ) → is_note id ≡ true → Answers db (record { lets = []; body = note_query l }) (Int (pos id) ∷ []) rows → shown_note rows ≡ (starts_in db.trees).notes id
  unfolding starts_in notes_at
  note_shown id ok h =
      let f : Row → Row = λ r. column r 3 ∷ [] in
      let found = picked (note_tree l) (is_equal_to (col 1 0) (col 0 0)) (col 1 3 ∷ []) db (Int (pos id) ∷ []) rows (plain_note l db.trees) h in
      let table = sym (note_at l there db.trees) ∙ sym (stand l db.trees has.listed).notes in
      let same = ap (λ p. map f (filter p (db.trees (note_tree l)))) (fun_ext (λ r. equals_int (column r 0) (pos id))) ∙ ap (λ xs. map f (filter (has_rowid (pos id)) xs)) table in
      rw ok (note_permuted (filter (has_rowid (pos id)) (note_rows db.trees)) rows (subst (λ xs. IsPermutation xs rows) same found))

-- ---- without them nothing is said

saves_none : (db : Database) (start : ℕ) → is_start start ≡ true → start_rows db.trees ≡ [] → Some None ≡ (starts_in db.trees).saves start
unfolding starts_in saves_at
saves_none db start ok none = rw (ok, none) refl

mark_none : (db : Database) (member : ℕ) → mark_rows db.trees ≡ [] → Some None ≡ (starts_in db.trees).heard member
unfolding starts_in heard_at
mark_none db member none = elim (cases_Bool (is_member member)) [ inl is ↦ rw (is, none) refl | inr other ↦ rw other refl ]

pub no_saves : (l : Layout) (db : Database) (start : ℕ) → LacksStarts l → AreTables l db → is_start start ≡ true → Some None ≡ (starts_in db.trees).saves start
no_saves Fresh db start lacks has ok = saves_none db start ok (stand Fresh db.trees has.listed).starts
no_saves Moved db start lacks has ok = saves_none db start ok (stand Moved db.trees has.listed).starts
no_saves FreshStarts db start lacks has ok = absurd lacks
no_saves MovedStarts db start lacks has ok = absurd lacks

pub no_mark : (l : Layout) (db : Database) (member : ℕ) → LacksStarts l → AreTables l db → Some None ≡ (starts_in db.trees).heard member
no_mark Fresh db member lacks has = mark_none db member (stand Fresh db.trees has.listed).marks
no_mark Moved db member lacks has = mark_none db member (stand Moved db.trees has.listed).marks
no_mark FreshStarts db member lacks has = absurd lacks
no_mark MovedStarts db member lacks has = absurd lacks

note_none : (db : Database) (id : ℕ) → note_rows db.trees ≡ [] → Some None ≡ (starts_in db.trees).notes id
unfolding starts_in notes_at
note_none db id none = elim (cases_Bool (is_note id)) [ inl is ↦ rw (is, none) refl | inr other ↦ rw other refl ]

pub no_note : (l : Layout) (db : Database) (id : ℕ) → LacksStarts l → AreTables l db → Some None ≡ (starts_in db.trees).notes id
no_note Fresh db id lacks has = note_none db id (stand Fresh db.trees has.listed).notes
no_note Moved db id lacks has = note_none db id (stand Moved db.trees has.listed).notes
no_note FreshStarts db id lacks has = absurd lacks
no_note MovedStarts db id lacks has = absurd lacks

-- ---- from a query to what it leaves

looked_as : (a b : State) → Ready a → OnlyLooks a b → Looked a b
looked_as a b r h = record {
  ready = same_ready a b r h.limit h.stays;
  same = same_kept a b h.stays;
  starts = λ is. ap (λ (d : Database). starts_in d.trees) (same_committed a b h.stays is).1;
  crash = λ left may. (may.0, h.crash may.0 may.1, may.2);
}

-- nothing was asked
pub looked_itself : (s : State) → Ready s → Looked s s
looked_itself s r = record { ready = r; same = λ is. (is, refl); starts = λ is. refl; crash = λ left may. may }

module _ {S : Type 0} (g : Ghosts S) (sql : List ℕ) (params : Row) (command : Layout → Command) (means : IsStartsQuery sql command) (old new : Held S) (r : Ready (state g old)) (there : (l : Layout) → AreTables l (state g old).now → HasStarts l) where
  only_looks : (result : Result (Vec Row Global) Error) → HasCleanDisk (state g new) → Queries g old new sql params result → OnlyLooks (state g old) (state g new)
  only_looks result clean (inr h) = record {
    stays = not_run (state g old) (state g new) sql h.given h.error h.why;
    limit = h.quiet.limit;
    crash = fewer (state g old) (state g new) h.quiet clean;
  }
  only_looks result clean (inl h) =
      let t = r.tables h.same.0.was_open in
      looks_only g sql params (schema_of t.0) (command t.0) (means t.0 (there t.0 t.1)) old new result clean t.1.schema (inl h)

  pub looks_there : (result : Result (Vec Row Global) Error) → HasCleanDisk (state g new) → Queries g old new sql params result → Looked (state g old) (state g new)
  looks_there result clean asked = looked_as (state g old) (state g new) r (only_looks result clean asked)

  pub reads_there : (rows : Vec Row Global) → Queries g old new sql params (Ok rows) → IsTrue (state g old).is_open × (l : Layout) × HasStarts l × AreTables l (state g old).now × Reads (command l) (state g old).now params rows.items
  reads_there rows (inr h) = absurd (let e = h.is in cc)
  reads_there rows (inl h) =
      let up = h.same.0.was_open in
      let t = r.tables up in
      let has = there t.0 t.1 in
      (up, t.0, has, t.1, (sees g sql params (schema_of t.0) (command t.0) (means t.0 has) old new rows t.1.schema (inl h)).1)

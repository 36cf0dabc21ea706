-- What the statements on the tables of starts make of the file.
use Rattle.std.proofs.Common.{◌≡◌, ◌≤◌, ◌<◌, ◌^◌, ◌-◌, ℕ, ℤ, pos, negsuc, List, [], ◌∷◌, filter, true, false, Bool, Option, Some, None, Ok, Err, Result, refl, sym, ap, ap₂, subst, ◌∙◌, inl, inr, arith}
use Rattle.std.specs.Prelude.{◌&&◌, ◌==◌, nat_le, nat_lt, if◌then◌else◌, OnOk}
use Rattle.std.proofs.lemmas.Bool.{cases_Bool, leb-true, ltb-true}
use Rattle.std.proofs.lemmas.Bool.Decides.{eqb_tells}
use mathlib.Core.Path.{fun_ext}
use Rattle.sqlite.specs.declared.error.Error.{Error}
use Rattle.sqlite.specs.declared.run.Mode.{Mode}
use Rattle.sqlite.specs.declared.types.Value.TheVariants.{Int, Text, Blob}
use Rattle.sqlite.specs.Order.{Row, column}
use Rattle.sqlite.specs.Tree.{Trees, has_rowid}
use Rattle.sqlite.specs.Effect.{Database}
use Rattle.sqlite.specs.Does.{Tally, Does}
use Rattle.sqlite.specs.Listing.{understood}
use Rattle.sqlite.specs.State.{State, ExecutesInside, mode_of}
use Rattle.sqlite.proofs.Callers.{runs_as, statement_of}
use Rattle.sqlite_trees.specs.Objects.{catalog_tree}
use Rattle.press_starts.specs.declared.mark.Mark.{Mark}
use Rattle.press_starts.specs.declared.sighting.Sighting.{Sighting}
use Rattle.press_store.specs.Tables.{Layout, Fresh, Moved, FreshStarts, MovedStarts, HasStarts, with_starts, schema_of, start_tree, mark_tree, note_tree, save_start_text, save_mark_text, save_note_text}
use Rattle.press_store.specs.Shown.{block_rows, vote_rows, meta_rows, old_rows, is_version, IsOurVersion}
use Rattle.press_store.specs.Stands.{store_in, store_with}
use Rattle.press_store.specs.Owned.{signed_number, unsigned_number}
use Rattle.press_store.specs.declared.note.Note.{Note}
use Rattle.press_store.specs.declared.note.Note.TheVariants.{Kit, Parts, Peers, Alone}
use Rattle.press_store.specs.Noted.{id_of, is_note}
use Rattle.press_store.specs.Starts.{start_rows, mark_rows, note_rows, saves_at, heard_at, notes_at, is_start, is_member, starts_in, with_mark, with_heard, with_note, StartMap, HasMark}
use Rattle.press_store.specs.Counting.{IsWritten, PutsNote}
use Rattle.press_store.specs.Attempt.{AreTables}
use Rattle.press_store.proofs.Put.{same_pos}
use Rattle.press_store.proofs.Replaced.{Replaces, start_row, mark_row, note_row, start_replaced, mark_replaced, note_replaced}
use Rattle.press_store.proofs.Signed.{signed_back, same_signed, signed_some}
use Rattle.press_store.proofs.Standing.{starts_at, stand, starts_change, marks_change, notes_change, still_listed, kept_still, tables_still}
use Rattle.press_store.proofs.Texts.{start_insert, mark_insert, note_insert, save_start_means, save_mark_means, save_note_means}

-- ---- a start is a number of 64 bits

pub in_range : (n : ℕ) → is_start n ≡ true → (1 ≤ n) × (n < 2 ^ 64)
in_range n h = go (nat_le 1 n) refl (nat_lt n (2 ^ 64)) refl h
  where
    go : (a : Bool) → nat_le 1 n ≡ a → (b : Bool) → nat_lt n (2 ^ 64) ≡ b → (a && b) ≡ true → (1 ≤ n) × (n < 2 ^ 64)
    go true a true b e = (leb-true 1 n a, ltb-true n (2 ^ 64) b)
    go true a false b e = absurd (let x = e in cc)
    go false a b f e = absurd (let x = e in cc)

low_of : (n : ℕ) (high : Bool) → (nat_le 1 n && high) ≡ true → 1 ≤ n
low_of n high h = go (nat_le 1 n) refl high h
  where
    go : (a : Bool) → nat_le 1 n ≡ a → (b : Bool) → (a && b) ≡ true → 1 ≤ n
    go true a b e = leb-true 1 n a
    go false a b e = absurd (let x = e in cc)

from_one : (n : ℕ) → is_member n ≡ true → 1 ≤ n
from_one n h = low_of n (nat_le n 7) h

note_from_one : (n : ℕ) → is_note n ≡ true → 1 ≤ n
note_from_one n h = low_of n (nat_le n 4) h

-- the id of a note is one
pub note_known : (which : Note) → is_note (id_of which) ≡ true
note_known Kit = refl
note_known Parts = refl
note_known Peers = refl
note_known Alone = refl

-- ---- one row

module _ (mark : Mark) (start : is_start mark.start ≡ true) (small : mark.saves < 2 ^ 64) (old new : List Row) (here : filter (has_rowid (signed_number mark.start)) new ≡ start_row (signed_number mark.start) (signed_number mark.saves) ∷ [])
    (there : (s : ℤ) → (s ≡ signed_number mark.start → ⊥) → (s ≡ pos 0 → ⊥) → filter (has_rowid s) new ≡ filter (has_rowid s) old) where
  own_saves : saves_at new mark.start ≡ Some (Some mark.saves)
  unfolding saves_at
  own_saves = rw (start, here, signed_back mark.saves small) refl

  other_saves : (s : ℕ) → (s ≡ mark.start → ⊥) → saves_at new s ≡ saves_at old s
  unfolding saves_at
  other_saves s apart = elim (cases_Bool (is_start s)) [
    | inr none ↦ rw none refl
    | inl is ↦
        let (low, high) = in_range s is in
        let same = there (signed_number s) (λ e. apart (same_signed s mark.start high (in_range mark.start start).1 e)) (signed_some s low high) in
        rw (is, same) refl
  ]

  saves_put : saves_at new ≡ (λ s. if s == mark.start then Some (Some mark.saves) else saves_at old s)
  saves_put = fun_ext (λ s. elim (eqb_tells s mark.start) [
    | inl same ↦ rw same.0 (subst (λ n. saves_at new n ≡ Some (Some mark.saves)) (sym same.1) own_saves)
    | inr apart ↦ rw apart.0 (other_saves s apart.1)
  ])

module _ (it : Sighting) (member : is_member it.member ≡ true) (start : it.mark.start < 2 ^ 64) (saves : it.mark.saves < 2 ^ 64) (old new : List Row)
    (here : filter (has_rowid (pos it.member)) new ≡ mark_row (pos it.member) (signed_number it.mark.start) (signed_number it.mark.saves) ∷ [])
    (there : (s : ℤ) → (s ≡ pos it.member → ⊥) → (s ≡ pos 0 → ⊥) → filter (has_rowid s) new ≡ filter (has_rowid s) old) where
  own_heard : heard_at new it.member ≡ Some (Some it.mark)
  unfolding heard_at
  own_heard = rw (member, here, signed_back it.mark.start start, signed_back it.mark.saves saves) refl

  other_heard : (m : ℕ) → (m ≡ it.member → ⊥) → heard_at new m ≡ heard_at old m
  unfolding heard_at
  other_heard m apart = elim (cases_Bool (is_member m)) [
    | inr none ↦ rw none refl
    | inl is ↦
        let low = from_one m is in
        let same = there (pos m) (λ e. apart (same_pos m it.member e)) (λ e. let none = same_pos m 0 e in omega (arith, low, none)) in
        rw (is, same) refl
  ]

  heard_put : heard_at new ≡ (λ m. if m == it.member then Some (Some it.mark) else heard_at old m)
  heard_put = fun_ext (λ m. elim (eqb_tells m it.member) [
    | inl same ↦ rw same.0 (subst (λ n. heard_at new n ≡ Some (Some it.mark)) (sym same.1) own_heard)
    | inr apart ↦ rw apart.0 (other_heard m apart.1)
  ])

module _ (id : ℕ) (name bytes : List ℕ) (known : is_note id ≡ true) (old new : List Row) (here : filter (has_rowid (pos id)) new ≡ note_row (pos id) name bytes ∷ [])
    (there : (s : ℤ) → (s ≡ pos id → ⊥) → (s ≡ pos 0 → ⊥) → filter (has_rowid s) new ≡ filter (has_rowid s) old) where
  own_note : notes_at new id ≡ Some (Some bytes)
  unfolding notes_at
  own_note = rw (known, here) refl

  other_note : (n : ℕ) → (n ≡ id → ⊥) → notes_at new n ≡ notes_at old n
  unfolding notes_at
  other_note n apart = elim (cases_Bool (is_note n)) [
    | inr none ↦ rw none refl
    | inl is ↦
        let low = note_from_one n is in
        let same = there (pos n) (λ e. apart (same_pos n id e)) (λ e. let none = same_pos n 0 e in omega (arith, low, none)) in
        rw (is, same) refl
  ]

  note_put_in : notes_at new ≡ (λ n. if n == id then Some (Some bytes) else notes_at old n)
  note_put_in = fun_ext (λ n. elim (eqb_tells n id) [
    | inl same ↦ rw same.0 (subst (λ m. notes_at new m ≡ Some (Some bytes)) (sym same.1) own_note)
    | inr apart ↦ rw apart.0 (other_note n apart.1)
  ])

-- ---- the tables

-- what the tables stand for is so by their rows
pub same_store : (old new : Trees) → old_rows new ≡ old_rows old → block_rows new ≡ block_rows old → vote_rows new ≡ vote_rows old → meta_rows new ≡ meta_rows old → store_in new ≡ store_in old
unfolding store_in
same_store old new slots blocks votes meta = rw (slots, blocks, votes, meta) refl

pub same_version : (old new : Trees) → meta_rows new ≡ meta_rows old → IsOurVersion old → IsOurVersion new
same_version old new same it = record { row = it.row; one = ap (filter is_version) same ∙ it.one; number = it.number }

pub has_with : (l : Layout) → HasStarts l → with_starts l ≡ l
has_with Fresh none = absurd none
has_with Moved none = absurd none
has_with FreshStarts has = refl
has_with MovedStarts has = refl

pub start_at : (l : Layout) → HasStarts l → (db : Trees) → starts_at l (start_tree l) db ≡ db (start_tree l)
start_at Fresh none db = absurd none
start_at Moved none db = absurd none
start_at FreshStarts has db = refl
start_at MovedStarts has db = refl

pub mark_at : (l : Layout) → HasStarts l → (db : Trees) → starts_at l (mark_tree l) db ≡ db (mark_tree l)
mark_at Fresh none db = absurd none
mark_at Moved none db = absurd none
mark_at FreshStarts has db = refl
mark_at MovedStarts has db = refl

pub note_at : (l : Layout) → HasStarts l → (db : Trees) → starts_at l (note_tree l) db ≡ db (note_tree l)
note_at Fresh none db = absurd none
note_at Moved none db = absurd none
note_at FreshStarts has db = refl
note_at MovedStarts has db = refl

marks_in : (mark : Mark) (old new : Trees) → saves_at (start_rows new) ≡ (λ s. if s == mark.start then Some (Some mark.saves) else saves_at (start_rows old) s) → mark_rows new ≡ mark_rows old → note_rows new ≡ note_rows old → starts_in new ≡ with_mark mark (starts_in old)
unfolding starts_in
marks_in mark old new saves heard notes = rw (saves, heard, notes) refl

hears_in : (it : Sighting) (old new : Trees) → start_rows new ≡ start_rows old → heard_at (mark_rows new) ≡ (λ m. if m == it.member then Some (Some it.mark) else heard_at (mark_rows old) m) → note_rows new ≡ note_rows old → starts_in new ≡ with_heard it (starts_in old)
unfolding starts_in
hears_in it old new starts heard notes = rw (starts, heard, notes) refl

notes_in : (id : ℕ) (bytes : List ℕ) (old new : Trees) → start_rows new ≡ start_rows old → mark_rows new ≡ mark_rows old → notes_at (note_rows new) ≡ (λ n. if n == id then Some (Some bytes) else notes_at (note_rows old) n) → starts_in new ≡ with_note id bytes (starts_in old)
unfolding starts_in
notes_in id bytes old new starts heard notes = rw (starts, heard, notes) refl

module _ (mark : Mark) (start : is_start mark.start ≡ true) (small : mark.saves < 2 ^ 64) where
  abbrev pub start_params : Row
  start_params = Int (signed_number mark.start) ∷ Int (signed_number mark.saves) ∷ []

  pub start_put : (l : Layout) → HasStarts l → (limit : Option ℕ) (mode : Mode) (now after : Database) (tally : Tally) (text : List ℕ) → AreTables l now → Does limit mode start_params now text None (start_insert l) (Ok (tally, after))
      → AreTables l after × IsWritten (λ store. store) (with_mark mark) now.trees after.trees
  start_put l there limit mode now after tally text has does =
      let (schema, put) = start_replaced l there (signed_number mark.start) (signed_number mark.saves) limit mode now after tally text has.schema does in
      let change = starts_change now.trees after.trees l there has.listed put.others in
      let was = stand l now.trees has.listed in
      let is = stand l after.trees (still_listed l now.trees after.trees change.listed has.listed) in
      let rows = start_at l there in
      let is_rows = is.starts ∙ rows after.trees in
      let was_rows = was.starts ∙ rows now.trees in
      let saves = saves_put mark start small (start_rows now.trees) (start_rows after.trees) (ap (filter (has_rowid (signed_number mark.start))) is_rows ∙ put.here)
      (λ s other some. ap (filter (has_rowid s)) is_rows ∙ put.there s other some ∙ ap (filter (has_rowid s)) (sym was_rows)) in (
        tables_still l now after schema change.listed change.old_stay (kept_still now.trees after.trees change.meta has.kept) has,
        record {
          stands = same_store now.trees after.trees change.old_stay change.blocks change.votes change.meta;
          starts = marks_in mark now.trees after.trees saves change.marks change.notes;
          version = same_version now.trees after.trees change.meta;
        },
      )

module _ (it : Sighting) (member : is_member it.member ≡ true) (start : it.mark.start < 2 ^ 64) (saves : it.mark.saves < 2 ^ 64) where
  abbrev pub mark_params : Row
  mark_params = Int (pos it.member) ∷ Int (signed_number it.mark.start) ∷ Int (signed_number it.mark.saves) ∷ []

  pub mark_put : (l : Layout) → HasStarts l → (limit : Option ℕ) (mode : Mode) (now after : Database) (tally : Tally) (text : List ℕ) → AreTables l now → Does limit mode mark_params now text None (mark_insert l) (Ok (tally, after))
      → AreTables l after × IsWritten (λ store. store) (with_heard it) now.trees after.trees
  mark_put l there limit mode now after tally text has does =
      let (schema, put) = mark_replaced l there (pos it.member) (signed_number it.mark.start) (signed_number it.mark.saves) limit mode now after tally text has.schema does in
      let change = marks_change now.trees after.trees l there has.listed put.others in
      let was = stand l now.trees has.listed in
      let is = stand l after.trees (still_listed l now.trees after.trees change.listed has.listed) in
      let rows = mark_at l there in
      let is_rows = is.marks ∙ rows after.trees in
      let was_rows = was.marks ∙ rows now.trees in
      let heard = heard_put it member start saves (mark_rows now.trees) (mark_rows after.trees) (ap (filter (has_rowid (pos it.member))) is_rows ∙ put.here)
      (λ s other some. ap (filter (has_rowid s)) is_rows ∙ put.there s other some ∙ ap (filter (has_rowid s)) (sym was_rows)) in (
        tables_still l now after schema change.listed change.old_stay (kept_still now.trees after.trees change.meta has.kept) has,
        record {
          stands = same_store now.trees after.trees change.old_stay change.blocks change.votes change.meta;
          starts = hears_in it now.trees after.trees change.starts heard change.notes;
          version = same_version now.trees after.trees change.meta;
        },
      )

module _ (id : ℕ) (name bytes : List ℕ) (known : is_note id ≡ true) where
  abbrev pub note_params : Row
  note_params = Int (pos id) ∷ Text name ∷ Blob bytes ∷ []

  pub note_put : (l : Layout) → HasStarts l → (limit : Option ℕ) (mode : Mode) (now after : Database) (tally : Tally) (text : List ℕ) → AreTables l now → Does limit mode note_params now text None (note_insert l) (Ok (tally, after)) → AreTables l after × PutsNote id bytes now.trees after.trees
  note_put l there limit mode now after tally text has does =
      let (schema, put) = note_replaced l there (pos id) name bytes limit mode now after tally text has.schema does in
      let change = notes_change now.trees after.trees l there has.listed put.others in
      let was = stand l now.trees has.listed in
      let is = stand l after.trees (still_listed l now.trees after.trees change.listed has.listed) in
      let rows = note_at l there in
      let is_rows = is.notes ∙ rows after.trees in
      let was_rows = was.notes ∙ rows now.trees in
      let notes = note_put_in id name bytes known (note_rows now.trees) (note_rows after.trees) (ap (filter (has_rowid (pos id))) is_rows ∙ put.here)
      (λ s other some. ap (filter (has_rowid s)) is_rows ∙ put.there s other some ∙ ap (filter (has_rowid s)) (sym was_rows)) in (
        tables_still l now after schema change.listed change.old_stay (kept_still now.trees after.trees change.meta has.kept) has,
        record {
          stands = same_store now.trees after.trees change.old_stay change.blocks change.votes change.meta;
          starts = notes_in id bytes now.trees after.trees change.starts change.marks notes;
          version = same_version now.trees after.trees change.meta;
        },
      )

-- ---- the same within a transaction

pub start_done : (old new : State) (mark : Mark) (result : Result ℕ Error) → is_start mark.start ≡ true → mark.saves < 2 ^ 64 → (l : Layout) → HasStarts l → AreTables l old.now
    → ExecutesInside 0 save_start_text (Int (signed_number mark.start) ∷ Int (signed_number mark.saves) ∷ []) old new result → OnOk result (AreTables (with_starts l) new.now × IsWritten (λ store. store) (with_mark mark) old.now.trees new.now.trees)
start_done old new mark (Err e) i h l there has ran = tt
start_done old new mark (Ok count) i h l there has ran =
    let text = statement_of save_start_text (understood (schema_of l) save_start_text) in
    let w = runs_as save_start_text (start_params mark i h) old new (schema_of l) has.schema (start_insert l) (save_start_means l there).0 (save_start_means l there).1 count ran.0 in
    let it = start_put mark i h l there old.step_limit (mode_of old) old.now new.now w.tally text has w.changed in
    (subst (λ (m : Layout). AreTables m new.now) (sym (has_with l there)) it.0, it.1)

pub mark_done : (old new : State) (it : Sighting) (result : Result ℕ Error) → is_member it.member ≡ true → it.mark.start < 2 ^ 64 → it.mark.saves < 2 ^ 64 → (l : Layout) → HasStarts l → AreTables l old.now
    → ExecutesInside 0 save_mark_text (Int (pos it.member) ∷ Int (signed_number it.mark.start) ∷ Int (signed_number it.mark.saves) ∷ []) old new result
    → OnOk result (AreTables (with_starts l) new.now × IsWritten (λ store. store) (with_heard it) old.now.trees new.now.trees)
mark_done old new it (Err e) m s n l there has ran = tt
mark_done old new it (Ok count) m s n l there has ran =
    let text = statement_of save_mark_text (understood (schema_of l) save_mark_text) in
    let w = runs_as save_mark_text (mark_params it m s n) old new (schema_of l) has.schema (mark_insert l) (save_mark_means l there).0 (save_mark_means l there).1 count ran.0 in
    let put = mark_put it m s n l there old.step_limit (mode_of old) old.now new.now w.tally text has w.changed in
    (subst (λ (m : Layout). AreTables m new.now) (sym (has_with l there)) put.0, put.1)

pub note_done : (old new : State) (id : ℕ) (name bytes : List ℕ) (result : Result ℕ Error) → is_note id ≡ true → (l : Layout) → HasStarts l → AreTables l old.now
    → ExecutesInside 0 save_note_text (Int (pos id) ∷ Text name ∷ Blob bytes ∷ []) old new result → OnOk result (AreTables (with_starts l) new.now × PutsNote id bytes old.now.trees new.now.trees)
note_done old new id name bytes (Err e) known l there has ran = tt
note_done old new id name bytes (Ok count) known l there has ran =
    let text = statement_of save_note_text (understood (schema_of l) save_note_text) in
    let w = runs_as save_note_text (note_params id name bytes known) old new (schema_of l) has.schema (note_insert l) (save_note_means l there).0 (save_note_means l there).1 count ran.0 in
    let put = note_put id name bytes known l there old.step_limit (mode_of old) old.now new.now w.tally text has w.changed in
    (subst (λ (m : Layout). AreTables m new.now) (sym (has_with l there)) put.0, put.1)

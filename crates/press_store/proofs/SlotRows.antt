-- What the query on a slot shows of the rows of version 1.
use Rattle.std.proofs.Common.{◌≡◌, ℕ, pos, List, [], ◌∷◌, map, filter, Ok, Err, Result, Vec, refl, sym, ap, subst, ◌∙◌, arith}
use Rattle.std.specs.Prelude.{IfOk}
use Rattle.std.specs.declared.alloc.Global.{Global}
use Rattle.std.specs.List.Sorted.{IsPermutation}
use Rattle.std.proofs.lemmas.List.Sorted.{length_permutation}
use mathlib.Core.Path.{fun_ext}
use Rattle.sqlite.specs.declared.error.Error.{Error}
use Rattle.sqlite.specs.declared.types.Value.TheVariants.{Int}
use Rattle.sqlite.specs.Order.{Row, column}
use Rattle.sqlite.specs.Tree.{has_rowid}
use Rattle.sqlite.specs.Term.{col, eval_all}
use Rattle.sqlite.specs.Effect.{Database, Answers}
use Rattle.sqlite.specs.Listing.{understood}
use Rattle.sqlite.specs.State.{State, Shown}
use Rattle.sqlite.proofs.Callers.{IsPlain, reads_as, one_permutation}
use Rattle.press_store.specs.Tables.{Moved, schema_of, slot_text, last_slot_text}
use Rattle.press_store.specs.Slots.{read_in, read_at, shown_row}
use Rattle.press_store.specs.Moving.{FindsRow}
use Rattle.press_store.proofs.Inside.{shown_same}
use Rattle.press_store.proofs.Queries.{picked, equals_int}
use Rattle.press_store.proofs.Texts.{is_equal_to, slot_query, slot_select, slot_means, last_slot_plain}

abbrev project : Row → Row
project r = column r 2 ∷ column r 3 ∷ column r 4 ∷ column r 5 ∷ column r 6 ∷ []

same_shown : (xs rows : List Row) → IsPermutation (map project xs) rows → shown_row rows ≡ read_in xs
same_shown [] [] h = refl
same_shown [] (v ∷ rows) h = absurd (omega (arith, length_permutation _ _ h))
same_shown (r ∷ []) rows h = ap shown_row (one_permutation (project r) rows h)
same_shown (r ∷ s ∷ xs) [] h = absurd (omega (arith, length_permutation _ _ h))
same_shown (r ∷ s ∷ xs) (v ∷ []) h = absurd (omega (arith, length_permutation _ _ h))
same_shown (r ∷ s ∷ xs) (v ∷ w ∷ rows) h = refl

row_found : (db : Database) (slot : ℕ) (rows : List Row) → Answers db (record { lets = []; body = slot_query }) (Int (pos slot) ∷ []) rows → shown_row rows ≡ read_at (db.trees 0) slot
unfolding read_at
row_found db slot rows h =
    let params = Int (pos slot) ∷ [] in
    let terms = col 1 2 ∷ col 1 3 ∷ col 1 4 ∷ col 1 5 ∷ col 1 6 ∷ [] in
    let found = picked 0 (is_equal_to (col 1 0) (col 0 0)) terms db params rows refl h in
    let same = ap (λ p. map (λ r. eval_all terms (params ∷ r ∷ [])) (filter p (db.trees 0))) (fun_ext (λ r. equals_int (column r 0) (pos slot))) in
    same_shown (filter (has_rowid (pos slot)) (db.trees 0)) rows (subst (λ xs. IsPermutation xs rows) same found)

pub slot_found : (old new : State) (slot : ℕ) (result : Result (Vec Row Global) Error) → old.now.schema ≡ schema_of Moved → IfOk result (λ rows. Shown slot_text (Int (pos slot) ∷ []) old new rows.items)
    → IfOk result (λ rows. (new.now.schema ≡ schema_of Moved) × FindsRow slot old.now.trees new.now.trees rows.items)
slot_found old new slot (Err e) has shown = tt
slot_found old new slot (Ok rows) has shown =
    let params = Int (pos slot) ∷ [] in
    let plain = subst (λ s. IsPlain (understood s slot_text)) (sym has) slot_means.1 in
    let same = (shown_same slot_text params old new plain rows.items shown).0.now_is in
    let read = reads_as slot_text params old new (schema_of Moved) has slot_select slot_means.0 slot_means.1 slot_means.2 rows.items shown in (
      ap (λ (d : Database). d.schema) same ∙ has,
      record { same = ap (λ (d : Database). d.trees) same; row = row_found old.now slot rows.items read },
    )

pub last_looks : (old new : State) (result : Result (Vec Row Global) Error) → old.now.schema ≡ schema_of Moved → IfOk result (λ rows. Shown last_slot_text [] old new rows.items)
    → IfOk result (λ rows. (new.now.schema ≡ schema_of Moved) × (new.now.trees ≡ old.now.trees))
last_looks old new (Err e) has shown = tt
last_looks old new (Ok rows) has shown =
    let plain = subst (λ s. IsPlain (understood s last_slot_text)) (sym has) last_slot_plain in
    let same = (shown_same last_slot_text [] old new plain rows.items shown).0.now_is in
    (ap (λ (d : Database). d.schema) same ∙ has, ap (λ (d : Database). d.trees) same)

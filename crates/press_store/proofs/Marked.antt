-- What the statements on `meta` leave and show.
use Rattle.std.proofs.Common.{◌≡◌, ℕ, ℤ, pos, Some, List, [], ◌∷◌, map, filter, codes, Option, None, Ok, Err, Result, Vec, refl, sym, ap, subst, ◌∙◌, arith}
use Rattle.std.specs.Prelude.{IfOk, IsSome}
use Rattle.std.specs.declared.alloc.Global.{Global}
use Rattle.std.specs.List.Sorted.{IsPermutation}
use mathlib.Core.Path.{fun_ext}
use Rattle.sqlite.specs.declared.error.Error.{Error}
use Rattle.sqlite.specs.declared.types.Value.TheVariants.{Int, Text}
use Rattle.sqlite.specs.Order.{Row, column}
use Rattle.sqlite.specs.Tree.{Trees}
use Rattle.sqlite.specs.Term.{col}
use Rattle.sqlite.specs.Effect.{Database, Answers}
use Rattle.sqlite.specs.Edit.{edit_of}
use Rattle.sqlite.specs.Rowids.TheVariants.{Given}
use Rattle.sqlite_rules.specs.Calls.{ids_of}
use Rattle.sqlite.specs.Rows.{Written}
use Rattle.sqlite.specs.Does.{Tally, Does}
use Rattle.sqlite.specs.declared.run.Mode.{Mode}
use Rattle.sqlite.specs.Listing.{understood}
use Rattle.sqlite.specs.State.{State, ExecutesInside, Shown, mode_of}
use Rattle.sqlite.proofs.Callers.{IsPlain, runs_as, reads_as, statement_of, one_step}
use Rattle.sqlite_trees.specs.Objects.{catalog_tree}
use Rattle.press_store.specs.Tables.{Moved, schema_of, meta_on, set_version_text, number_text}
use Rattle.press_store.specs.Shown.{most_rounds, number_in}
use Rattle.press_store.specs.Moving.{IsOneOf, HasNumber, is_named, SetsMeta, ShowsMeta, ShowsNumber, IsMarked}
use Rattle.press_store.proofs.Checked.{one_shown}
use Rattle.press_store.proofs.Inside.{shown_same}
use Rattle.press_store.proofs.Put.{went, same_value}
use Rattle.press_store.proofs.Queries.{picked, equals_text}
use Rattle.press_store.proofs.Texts.{is_equal_to, number_query, number_select, number_means, version_update, set_version_means}

module _ (limit : Option ℕ) (mode : Mode) (now after : Database) (tally : Tally) (has : now.schema ≡ schema_of Moved) (text : List ℕ)
    (does : Does limit mode [] now text None version_update (Ok (tally, after))) where
  updated : (after.schema ≡ schema_of Moved) × SetsMeta now.trees after.trees
  updated =
      let db = now.trees in
      let done = went (subst (λ s. Does limit mode [] (record now { schema = s }) text None version_update (Ok (tally, after))) has does) in
      let is = ap (λ (p : Tally × Database). p.1) (same_value (went (went done.2).2).2) in
      let given = went done.1 in
      let written = went given.2 in
      let trees : done.0.trees ≡ written.0 = ap (λ (it : Written). it.trees) (same_value written.2) in
      let step = one_step (schema_of Moved) mode.keys db written.0 (edit_of db (meta_on 1) (ids_of given.0) Given 1 given.0) refl written.1 in
      let kept : SetsMeta db written.0 = record {
        slots = step.others 0 (λ e. absurd (omega (arith, e))) (λ e. absurd (omega (arith, e)), tt);
        blocks = step.others 3 (λ e. absurd (omega (arith, e))) (λ e. absurd (omega (arith, e)), tt);
        votes = step.others 4 (λ e. absurd (omega (arith, e))) (λ e. absurd (omega (arith, e)), tt);
        listed = step.others catalog_tree (λ e. absurd (omega (arith, e))) (λ e. absurd (omega (arith, e)), tt);
      } in
      (ap (λ (d : Database). d.schema) is, subst (SetsMeta db) (sym (ap (λ (d : Database). d.trees) is ∙ trees)) kept)

pub version_set : (old new : State) (result : Result ℕ Error) → old.now.schema ≡ schema_of Moved → ExecutesInside 0 set_version_text [] old new result → IfOk result (λ _. (new.now.schema ≡ schema_of Moved) × SetsMeta old.now.trees new.now.trees)
version_set old new (Err e) has h = tt
version_set old new (Ok count) has h =
    let w = runs_as set_version_text [] old new (schema_of Moved) has version_update set_version_means.0 set_version_means.1 count h.0 in
    updated old.step_limit (mode_of old) old.now new.now w.tally has (statement_of set_version_text (understood (schema_of Moved) set_version_text)) w.changed

-- ---- a number

number_told : (name : List ℕ) (db : Database) (rows : List Row) → Answers db (record { lets = []; body = number_query }) (Text name ∷ []) rows → (n : ℤ) → IsOneOf rows n → HasNumber name n db.trees
number_told name db rows h n number =
    let params = Text name ∷ [] in
    let f : Row → Row = λ r. column r 0 ∷ column r 2 ∷ [] in
    let found = picked 1 (is_equal_to (col 1 1) (col 0 0)) (col 1 0 ∷ col 1 2 ∷ []) db params rows refl h in
    let same = ap (λ p. map f (filter p (db.trees 1))) (fun_ext (λ r. equals_text (column r 1) name)) in
    let one = one_shown f (filter (is_named name) (db.trees 1)) rows number.0 (subst (λ xs. IsPermutation xs rows) same found) number.1 in
    record { row = one.0; one = one.1; id = number.2.0; numbered = ap (λ (r : Row). column r 0) one.2 ∙ number.2.1; number = ap (λ (r : Row). column r 1) one.2 ∙ number.3 }

pub meta_shown : (name : List ℕ) (old new : State) (result : Result (Vec Row Global) Error) → old.now.schema ≡ schema_of Moved → IfOk result (λ rows. Shown number_text (Text name ∷ []) old new rows.items)
    → IfOk result (λ rows. (new.now.schema ≡ schema_of Moved) × ShowsMeta name old.now.trees new.now.trees rows.items)
meta_shown name old new (Err e) has shown = tt
meta_shown name old new (Ok rows) has shown =
    let params = Text name ∷ [] in
    let plain = subst (λ s. IsPlain (understood s number_text)) (sym has) number_means.1 in
    let same = (shown_same number_text params old new plain rows.items shown).0.now_is in
    let read = reads_as number_text params old new (schema_of Moved) has number_select number_means.0 number_means.1 number_means.2 rows.items shown in
    (ap (λ (d : Database). d.schema) same ∙ has, record { same = ap (λ (d : Database). d.trees) same; number = number_told name old.now rows.items read })

pub marked : (a b c d e f : Trees) (was before after version : Option ℤ) → ShowsNumber (codes "version") a b was → ShowsNumber (codes "last_round") b c before → SetsMeta c d → ShowsNumber (codes "last_round") d e after → ShowsNumber (codes "version") e f version
    → was ≡ Some (pos 1) → (n : ℤ) × (before ≡ Some n) × (after ≡ Some n) × IsSome (number_in 0 most_rounds (Int n)) → version ≡ Some (pos 2) → IsMarked a f
marked a b c d e f was before after version zero one two three four old (n, first, last, sound) told =
    let earlier : c ≡ a = one.same ∙ zero.same in
    let later : f ≡ d = four.same ∙ three.same in
    record {
      set = record {
        slots = ap (λ (t : Trees). t 0) later ∙ two.slots ∙ ap (λ (t : Trees). t 0) earlier;
        blocks = ap (λ (t : Trees). t 3) later ∙ two.blocks ∙ ap (λ (t : Trees). t 3) earlier;
        votes = ap (λ (t : Trees). t 4) later ∙ two.votes ∙ ap (λ (t : Trees). t 4) earlier;
        listed = ap (λ (t : Trees). t catalog_tree) later ∙ two.listed ∙ ap (λ (t : Trees). t catalog_tree) earlier;
      };
      round = n;
      sound = sound;
      was = subst (HasNumber (codes "last_round") n) zero.same (one.number n first);
      stays = subst (HasNumber (codes "last_round") n) (sym later) (three.number n last);
      was_version = zero.number (pos 1) old;
      version = subst (HasNumber (codes "version") (pos 2)) (sym four.same) (four.number (pos 2) told);
    }

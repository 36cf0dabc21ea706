-- The table of version 1 is emptied, and a query shows that it is.
use Rattle.std.proofs.Common.{◌≡◌, ℕ, List, [], ◌∷◌, codes, Option, None, Ok, Err, Result, Vec, refl, sym, ap, subst, ◌∙◌, arith}
use Rattle.std.specs.Prelude.{IfOk}
use Rattle.std.specs.declared.alloc.Global.{Global}
use Rattle.sqlite.specs.declared.error.Error.{Error}
use Rattle.sqlite.specs.Order.{Row}
use Rattle.sqlite.specs.Effect.{Database}
use Rattle.sqlite.specs.Edit.{edit_of}
use Rattle.sqlite.specs.Rowids.TheVariants.{Given}
use Rattle.sqlite_rules.specs.Calls.{ids_of}
use Rattle.sqlite.specs.Rows.{Written}
use Rattle.sqlite.specs.Does.{Tally, Does}
use Rattle.sqlite.specs.declared.run.Mode.{Mode}
use Rattle.sqlite.specs.Listing.{understood}
use Rattle.sqlite.specs.State.{State, ExecutesInside, Shown, mode_of}
use Rattle.sqlite.proofs.Callers.{IsPlain, runs_as, reads_as, statement_of, one_step}
use Rattle.sqlite_trees.specs.Objects.{catalog_tree}
use Rattle.press_store.specs.Tables.{Moved, schema_of, promise, clear_text, left_text}
use Rattle.press_store.specs.Moving.{OthersKept, ShowsNone}
use Rattle.press_store.proofs.Emptied.{none_left}
use Rattle.press_store.proofs.Inside.{shown_same}
use Rattle.press_store.proofs.Put.{went, same_value}
use Rattle.press_store.proofs.Texts.{select, clear_delete, clear_means, left_query, left_means}

module _ (limit : Option ℕ) (mode : Mode) (now after : Database) (tally : Tally) (has : now.schema ≡ schema_of Moved) (text : List ℕ)
    (does : Does limit mode [] now text None (clear_delete) (Ok (tally, after))) where
  deleted : (after.schema ≡ schema_of Moved) × OthersKept now.trees after.trees
  deleted =
      let db = now.trees in
      let done = went (subst (λ s. Does limit mode [] (record now { schema = s }) text None (clear_delete) (Ok (tally, after))) has does) in
      let is = ap (λ (p : Tally × Database). p.1) (same_value (went (went done.2).2).2) in
      let given = went done.1 in
      let written = went given.2 in
      let trees : done.0.trees ≡ written.0 = ap (λ (it : Written). it.trees) (same_value written.2) in
      let step = one_step (schema_of Moved) mode.keys db written.0 (edit_of db promise (ids_of given.0) Given 0 []) refl written.1 in
      let kept : OthersKept db written.0 = record {
        meta = step.others 1 (λ e. absurd (omega (arith, e))) (λ e. absurd (omega (arith, e)), tt);
        blocks = step.others 3 (λ e. absurd (omega (arith, e))) (λ e. absurd (omega (arith, e)), tt);
        votes = step.others 4 (λ e. absurd (omega (arith, e))) (λ e. absurd (omega (arith, e)), tt);
        listed = step.others catalog_tree (λ e. absurd (omega (arith, e))) (λ e. absurd (omega (arith, e)), tt);
      } in
      (ap (λ (d : Database). d.schema) is, subst (OthersKept db) (sym (ap (λ (d : Database). d.trees) is ∙ trees)) kept)

pub rows_deleted : (old new : State) (result : Result ℕ Error) → old.now.schema ≡ schema_of Moved → ExecutesInside 0 clear_text [] old new result → IfOk result (λ _. (new.now.schema ≡ schema_of Moved) × OthersKept old.now.trees new.now.trees)
rows_deleted old new (Err e) has h = tt
rows_deleted old new (Ok count) has h =
    let w = runs_as clear_text [] old new (schema_of Moved) has clear_delete clear_means.0 clear_means.1 count h.0 in
    deleted old.step_limit (mode_of old) old.now new.now w.tally has (statement_of clear_text (understood (schema_of Moved) clear_text)) w.changed

pub rows_shown : (old new : State) (result : Result (Vec Row Global) Error) → old.now.schema ≡ schema_of Moved → IfOk result (λ rows. Shown left_text [] old new rows.items)
    → IfOk result (λ rows. (new.now.schema ≡ schema_of Moved) × ShowsNone old.now.trees new.now.trees rows.items)
rows_shown old new (Err e) has shown = tt
rows_shown old new (Ok rows) has shown =
    let plain = subst (λ s. IsPlain (understood s left_text)) (sym has) (left_means Moved tt).1 in
    let same = (shown_same left_text [] old new plain rows.items shown).0.now_is in
    let read = reads_as left_text [] old new (schema_of Moved) has (select left_query (codes "slot" ∷ [])) (left_means Moved tt).0 (left_means Moved tt).1 (left_means Moved tt).2 rows.items shown in
    (ap (λ (d : Database). d.schema) same ∙ has, record { same = ap (λ (d : Database). d.trees) same; none = none_left old.now rows.items read })

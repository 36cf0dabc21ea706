-- What the queries of an adoption show of the rows.
use Rattle.std.proofs.Common.{◌≡◌, List, [], ◌∷◌, map, filter, codes, length, refl, sym, ap, subst, ◌∙◌, arith}
use mathlib.Core.Path.{fun_ext}
use Rattle.std.proofs.lemmas.List.{length-map}
use Rattle.std.specs.List.Sorted.{IsPermutation}
use Rattle.std.proofs.lemmas.List.Sorted.{length_permutation}
use Rattle.sqlite.specs.declared.types.Value.TheVariants.{Text}
use Rattle.sqlite.specs.Order.{Row, column}
use Rattle.sqlite.specs.Term.{lit, col}
use Rattle.sqlite.specs.Effect.{Database, Answers}
use Rattle.sqlite.proofs.Callers.{one_permutation}
use Rattle.sqlite_trees.specs.Objects.{catalog_tree}
use Rattle.sqlite_catalog.specs.Listing.{Lists}
use Rattle.press_store.specs.Adopting.{IsOneNumber, IsOneTwo}
use Rattle.press_store.specs.Tables.{Layout, schema_of, meta_tree}
use Rattle.press_store.specs.Shown.{is_last_round, is_version, meta_rows, IsKept, IsOurVersion}
use Rattle.press_store.proofs.Queries.{picked, equals_text, plain_meta}
use Rattle.press_store.proofs.Standing.{stand}
use Rattle.press_store.proofs.Texts.{is_equal_to, check_query, version_query}

one_of : {X : Type 0} (xs : List X) → length xs ≡ 1 → (x : X) × (xs ≡ x ∷ [])
one_of [] h = absurd (omega (arith, h))
one_of (x ∷ []) h = (x, refl)
one_of (x ∷ y ∷ more) h = absurd (omega (arith, h))

abbrev first_of : List Row → Row
first_of [] = []
first_of (r ∷ rs) = r

-- one row that is shown is of one row that passes
pub one_shown : (f : Row → Row) (xs rows : List Row) (v : Row) → IsPermutation (map f xs) rows → rows ≡ v ∷ [] → (r : Row) × (xs ≡ r ∷ []) × (f r ≡ v)
one_shown f xs rows v h is =
    let count = sym (length_permutation _ rows h) ∙ ap length is in
    let one = one_of xs (sym (length-map xs f) ∙ count) in
    let shown = one_permutation (f one.0) rows (subst (λ ys. IsPermutation (map f ys) rows) one.1 h) in
    (one.0, one.1, ap first_of (sym shown ∙ is))

module _ (l : Layout) (db : Database) (lists : Lists (db.trees catalog_tree) (schema_of l)) (rows : List Row) where
  -- a database whose query shows one row with a number has its last round
  pub checked_kept : IsOneNumber rows → Answers db (record { lets = []; body = check_query l }) [] rows → IsKept db.trees
  checked_kept number h =
      let f : Row → Row = λ r. column r 0 ∷ column r 2 ∷ [] in
      let found = picked (meta_tree l) (is_equal_to (col 1 1) (lit (Text (codes "last_round")))) (col 1 0 ∷ col 1 2 ∷ []) db [] rows (plain_meta l db.trees) h in
      let same = ap (λ p. map f (filter p (db.trees (meta_tree l)))) (fun_ext (λ r. equals_text (column r 1) (codes "last_round"))) ∙ ap (λ xs. map f (filter is_last_round xs)) (sym (stand l db.trees lists).meta) in
      let one = one_shown f (filter is_last_round (meta_rows db.trees)) rows number.0 (subst (λ xs. IsPermutation xs rows) same found) number.2 in
      record { row = one.0; one = one.1; id = number.1; numbered = ap (λ (r : Row). column r 0) one.2 ∙ number.3 }

  -- a database whose query shows the number 2 alone has the version of these tables
  pub checked_version : IsOneTwo rows → Answers db (record { lets = []; body = version_query l }) [] rows → IsOurVersion db.trees
  checked_version number h =
      let f : Row → Row = λ r. column r 2 ∷ [] in
      let found = picked (meta_tree l) (is_equal_to (col 1 1) (lit (Text (codes "version")))) (col 1 2 ∷ []) db [] rows (plain_meta l db.trees) h in
      let same = ap (λ p. map f (filter p (db.trees (meta_tree l)))) (fun_ext (λ r. equals_text (column r 1) (codes "version"))) ∙ ap (λ xs. map f (filter is_version xs)) (sym (stand l db.trees lists).meta) in
      let one = one_shown f (filter is_version (meta_rows db.trees)) rows number.0 (subst (λ xs. IsPermutation xs rows) same found) number.1 in
      record { row = one.0; one = one.1; number = ap (λ (r : Row). column r 0) one.2 ∙ number.2 }

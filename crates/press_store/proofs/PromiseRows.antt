-- What the query on a block shows.
use Rattle.std.proofs.Common.{◌≡◌, ℕ, pos, List, [], ◌∷◌, map, filter, true, Option, Some, None, IfSome, refl, sym, ap, subst, ◌∙◌, arith}
use Rattle.std.specs.Prelude.{option_map, unwrap_or}
use Rattle.std.specs.List.Sorted.{IsPermutation}
use Rattle.std.proofs.lemmas.List.Sorted.{length_permutation}
use mathlib.Core.Path.{fun_ext}
use Rattle.sqlite.specs.declared.types.Value.TheVariants.{Int}
use Rattle.sqlite.specs.Order.{Row, column}
use Rattle.sqlite.specs.Tree.{has_rowid}
use Rattle.sqlite.specs.Term.{col, eval_all}
use Rattle.sqlite.specs.Effect.{Database, Answers}
use Rattle.sqlite.proofs.Callers.{one_permutation}
use Rattle.press_wire.specs.declared.ballot.Ballot.{Ballot}
use Rattle.press_wire.specs.Blocks.{is_first}
use Rattle.press_acceptor.specs.StoreMap.{block_votes}
use Rattle.press_acceptor.proofs.Maps.{IsSlot}
use Rattle.press_store.specs.Tables.{Layout, block_tree}
use Rattle.press_store.specs.Shown.{ballot_in, promise_in, promise_over, damaged_ballot, shown_promise, IsPromiseShown, block_rows, vote_rows, meta_rows}
use Rattle.press_store.specs.Stands.{store_in}
use Rattle.press_store.specs.Attempt.{AreTables}
use Rattle.press_store.proofs.Maps.{block_promised}
use Rattle.press_store.proofs.Queries.{picked, equals_int, plain_block}
use Rattle.press_store.proofs.Standing.{stand}
use Rattle.press_store.proofs.Versions.{as_newer, newer_in}
use Rattle.press_store.proofs.Texts.{is_equal_to, promise_query}

abbrev project : Row → Row
project r = column r 2 ∷ column r 3 ∷ []

itself : (o : Option Ballot) → IfSome (option_map Some o) (λ p. p ≡ Some (unwrap_or o damaged_ballot))
itself None = tt
itself (Some b) = refl

shown_same : (xs rows : List Row) → IsPermutation (map project xs) rows → IfSome (shown_promise rows) (λ p. p ≡ promise_in xs)
shown_same [] [] h = refl
shown_same [] (v ∷ rows) h = absurd (omega (arith, length_permutation _ _ h))
shown_same (r ∷ []) rows h = subst (λ found. IfSome (shown_promise found) (λ p. p ≡ promise_in (r ∷ []))) (sym (one_permutation (project r) rows h)) (itself (ballot_in (column r 2) (column r 3)))
shown_same (r ∷ s ∷ xs) [] h = absurd (omega (arith, length_permutation _ _ h))
shown_same (r ∷ s ∷ xs) (v ∷ []) h = absurd (omega (arith, length_permutation _ _ h))
shown_same (r ∷ s ∷ xs) (v ∷ w ∷ rows) h = tt

if_some : {A : Type 0} {P Q : A → Type 0} (o : Option A) → ((a : A) → P a → Q a) → IfSome o P → IfSome o Q
if_some None so h = tt
if_some (Some a) so h = so a h

pub promise_shown : (l : Layout) (db : Database) (first : ℕ) (rows : List Row) → IsSlot first → is_first first ≡ true → AreTables l db → Answers db (record { lets = []; body = promise_query l }) (Int (pos first) ∷ []) rows
    → IfSome (shown_promise rows) (IsPromiseShown (store_in db.trees) first)
promise_shown l db first rows i e has h =
    let params = Int (pos first) ∷ [] in
    let tree = block_tree l in
    let project_terms = col 1 2 ∷ col 1 3 ∷ [] in
    let blocks = block_rows db.trees in
    let found = picked tree (is_equal_to (col 1 0) (col 0 0)) project_terms db params rows (plain_block l db.trees) h in
    let same = ap (λ p. map (λ r. eval_all project_terms (params ∷ r ∷ [])) (filter p (db.trees tree))) (fun_ext (λ r. equals_int (column r 0) (pos first)))
    ∙ ap (λ xs. map project (filter (has_rowid (pos first)) xs)) (sym (stand l db.trees has.listed).blocks) in
    let promised = block_promised blocks (vote_rows db.trees) (meta_rows db.trees) first i e in
    subst (λ store. IfSome (shown_promise rows) (IsPromiseShown store first)) (as_newer db.trees has.emptied)
    (if_some (shown_promise rows) (λ p is. promised ∙ ap (λ o. promise_over o (block_votes (newer_in db.trees) first)) (sym is))
    (shown_same (filter (has_rowid (pos first)) blocks) rows (subst (λ xs. IsPermutation xs rows) same found)))

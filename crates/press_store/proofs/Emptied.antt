-- What the query on the rows of version 1 shows.
use Rattle.std.proofs.Common.{◌≡◌, List, [], ◌∷◌, map, refl, sym, subst, ◌∙◌}
use Rattle.std.specs.List.Sorted.{IsPermutation}
use Rattle.sqlite.specs.declared.types.Value.TheVariants.{Null}
use Rattle.sqlite.specs.Order.{Row}
use Rattle.sqlite.specs.Query.{IsAnswer, output, Output, page}
use Rattle.sqlite.specs.Program.{overlay}
use Rattle.sqlite.specs.Effect.{Database, Answers}
use Rattle.sqlite_trees.specs.Objects.{catalog_tree}
use Rattle.sqlite_catalog.specs.Listing.{Lists}
use Rattle.press_store.specs.Tables.{Layout, Fresh, Moved, FreshStarts, MovedStarts, HasOld, schema_of}
use Rattle.press_store.specs.Shown.{IsEmptied}
use Rattle.press_store.proofs.Queries.{outputs, all_pass, none_of}
use Rattle.press_store.proofs.Standing.{stand}
use Rattle.press_store.proofs.Texts.{left_query}

none_paged : (f : Row → Output) (table rows : List Row) (ordered : List Output) → IsPermutation (map f table) ordered → rows ≡ page left_query [] (map (λ o. o.1) ordered) → rows ≡ [] → table ≡ []
none_paged f table rows [] same shown none = none_of f table same
none_paged f table rows (o ∷ more) same shown none = absurd (let e = sym shown ∙ none in cc)

-- a query that shows no row is over a table without one
pub none_left : (db : Database) (rows : List Row) → Answers db (record { lets = []; body = left_query }) [] rows → rows ≡ [] → db.trees 0 ≡ []
none_left db rows h none =
    let trees = overlay db.trees [] in
    let a : IsAnswer left_query trees [] rows = h.answer Null in
    let out = outputs left_query trees 0 [] rows refl refl refl a in
    none_paged _ (db.trees 0) rows a.ordered (subst (λ xs. IsPermutation (map (λ r. output left_query ([] ∷ r ∷ [])) xs) a.ordered) (all_pass [] (trees 0)) out) a.shown none

pub emptied : (l : Layout) → HasOld l → (db : Database) (rows : List Row) → Lists (db.trees catalog_tree) (schema_of l) → Answers db (record { lets = []; body = left_query }) [] rows → rows ≡ [] → IsEmptied db.trees
emptied Fresh no_table db rows lists h none = absurd no_table
emptied Moved old db rows lists h none = (stand Moved db.trees lists).old ∙ none_left db rows h none
emptied FreshStarts no_table db rows lists h none = absurd no_table
emptied MovedStarts old db rows lists h none = (stand MovedStarts db.trees lists).old ∙ none_left db rows h none

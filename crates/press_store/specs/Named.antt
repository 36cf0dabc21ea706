-- The rows of a table by its name, wherever it stands.
use Rattle.std.specs.Prelude.{◌-◌, ◌&&◌, ℕ, Bool, find, List, [], Option, None, Some, option_map}
use Rattle.std.specs.Ordering.{is_eq}
use Rattle.sqlite.specs.declared.types.Value.TheVariants.{Text}
use Rattle.sqlite.specs.Order.{Row, column, value_cmp}
use Rattle.sqlite.specs.Tree.{Trees, rowid}
use Rattle.sqlite_trees.specs.Objects.{catalog_tree, number_in}
use Rattle.sqlite_catalog.specs.Listing.{is_table_row}

abbrev pub is_table_of : List ℕ → Row → Bool
is_table_of name r = is_table_row r && is_eq (value_cmp (column r 2) (Text name))

abbrev pub tree_of : List ℕ → List Row → Option ℕ
tree_of name objects = option_map (λ r. number_in (rowid r) - 1) (find (is_table_of name) objects)

abbrev pub rows_at : Trees → Option ℕ → List Row
rows_at db None = []
rows_at db (Some tree) = db tree

-- one that is not there has no rows
unfoldable pub rows_of : List ℕ → Trees → List Row
rows_of name db = rows_at db (tree_of name (db catalog_tree))

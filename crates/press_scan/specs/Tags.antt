-- The registered tags, in the order in which they were added, each with its callback (`add_shortcode`, `remove_shortcode`). Names are lists of bytes.
use Rattle.std.specs.Prelude.{ℕ, List, [], ◌∷◌, ◌++◌, length, Bool, true, false, not, ◌&&◌, ◌||◌, cond, ltb, bytes_eq, Option, Some, None, filter, map}
use Rattle.std.specs.List.{list_any}
use Rattle.press_text.specs.Names.{is_name}
use Rattle.press_scan.specs.declared.tag_row.TagRow.{TagRow}

abbrev pub is_tag : List ℕ → TagRow → Bool
is_tag name r = bytes_eq name r.name

abbrev pub name_of_row : TagRow → List ℕ
name_of_row r = r.name

abbrev pub names_of : List TagRow → List (List ℕ)
names_of rows = map name_of_row rows

-- the number of tags that a table holds at most
abbrev pub most_tags : ℕ
most_tags = 128

-- the row with this callback, where it is the one named
abbrev pub answered_by : List ℕ → List ℕ → TagRow → TagRow
answered_by name callback r = elim (is_tag name r) [ true ↦ record r { callback = callback } | false ↦ r ]

-- whether a new tag of this name can be added: its name is one, and there is room
abbrev pub takes_tag : List ℕ → List TagRow → Bool
takes_tag name rows = ltb (length rows) most_tags && is_name 32 name

-- add: a tag that is registered changes its callback alone; otherwise a new one goes last where it can be added
abbrev pub add_tag : List ℕ → List ℕ → List TagRow → List TagRow
add_tag name callback rows =
    cond (list_any (is_tag name) rows) (map (answered_by name callback) rows)
    (cond (takes_tag name rows) (rows ++ record { name = name; callback = callback } ∷ []) rows)

-- whether the tag then exists
abbrev pub adds_tag : List ℕ → List TagRow → Bool
adds_tag name rows = list_any (is_tag name) rows || takes_tag name rows

-- remove: the tag of this name goes
abbrev pub remove_tag : List ℕ → List TagRow → List TagRow
remove_tag name rows = filter (λ r. not (is_tag name r)) rows

-- the callback of the tag of this name
abbrev pub callback_of : List ℕ → List TagRow → Option (List ℕ)
callback_of name [] = None
callback_of name (r ∷ rs) = cond (is_tag name r) (Some r.callback) (callback_of name rs)

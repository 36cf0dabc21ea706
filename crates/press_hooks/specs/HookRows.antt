-- A hook table is a set of rows (hook, priority, callback, accepted); an edit puts in, changes or takes out the rows that it names
-- (`WP_Hook`: `add_filter`, `remove_filter`, `remove_all_filters`, `has_filter`). Names are lists of bytes.
-- The rows are ordered by hook, then by priority, then by when they were added.
use Rattle.std.specs.Prelude.{ℕ, ℤ, List, [], ◌∷◌, length, Bool, true, false, not, ◌&&◌, ◌||◌, cond, ltb, int_lt, bytes_eq, Option, Some, None, filter, map, insert, position, unwrap_or}
use Rattle.std.specs.Cmp.Lexicographic.{slice_cmp}
use Rattle.std.specs.Ordering.{nat_cmp, int_eq}
use Rattle.std.specs.declared.cmp.Ordering.TheVariants.{Less, Equal, Greater}
use Rattle.std.specs.List.{list_any}
use Rattle.press_hooks.specs.declared.row.Row.{Row}
use Rattle.press_hooks.specs.declared.entry.Entry.{Entry}

abbrev pub is_row : List ℕ → ℤ → List ℕ → Row → Bool
is_row hook priority callback r = bytes_eq r.hook hook && (int_eq r.priority priority && bytes_eq r.callback callback)

-- the number of rows that a table holds at most
abbrev pub most_rows : ℕ
most_rows = 1024

-- the row with this `accepted`, where it is the row named
abbrev pub accepted_as : List ℕ → ℤ → List ℕ → ℕ → Row → Row
accepted_as hook priority callback accepted r = elim (is_row hook priority callback r) [ true ↦ record r { accepted = accepted } | false ↦ r ]

-- whether a row is after a new one of this hook and priority
abbrev pub stands_after : List ℕ → ℤ → Row → Bool
stands_after hook priority r = elim (slice_cmp nat_cmp hook r.hook) [ Less ↦ true | Equal ↦ int_lt priority r.priority | Greater ↦ false ]

-- before the first row that is after it, or last
abbrev pub place_in : List ℕ → ℤ → List Row → ℕ
place_in hook priority rows = unwrap_or (position (stands_after hook priority) rows) (length rows)

abbrev pub put_row : Row → List Row → List Row
put_row r rows = insert rows (place_in r.hook r.priority rows) r

-- add: a row of this hook, priority and callback that exists changes `accepted` alone; otherwise a new row is put in where there is room
abbrev pub add_row : List ℕ → List ℕ → ℤ → ℕ → List Row → List Row
add_row hook callback priority accepted rows =
    cond (list_any (is_row hook priority callback) rows) (map (accepted_as hook priority callback accepted) rows)
    (cond (ltb (length rows) most_rows) (put_row (record { hook = hook; priority = priority; callback = callback; accepted = accepted }) rows) rows)

-- whether the row then exists
abbrev pub adds_row : List ℕ → List ℕ → ℤ → List Row → Bool
adds_row hook callback priority rows = list_any (is_row hook priority callback) rows || ltb (length rows) most_rows

-- remove: the row of this hook, priority and callback goes
abbrev pub remove_row : List ℕ → List ℕ → ℤ → List Row → List Row
remove_row hook callback priority rows = filter (λ r. not (is_row hook priority callback r)) rows

abbrev pub is_at : List ℕ → ℤ → Row → Bool
is_at hook priority r = bytes_eq r.hook hook && int_eq r.priority priority

-- at that priority, or at any
abbrev pub is_at_any : List ℕ → Option ℤ → Row → Bool
is_at_any hook None r = bytes_eq r.hook hook
is_at_any hook (Some p) r = is_at hook p r

-- remove all: the rows of the hook at a priority go, or at every one
abbrev pub remove_rows : List ℕ → Option ℤ → List Row → List Row
remove_rows hook priority rows = filter (λ r. not (is_at_any hook priority r)) rows

abbrev pub is_of_callback : List ℕ → List ℕ → Row → Bool
is_of_callback hook callback r = bytes_eq r.hook hook && bytes_eq r.callback callback

-- the lesser of a number and perhaps another
abbrev pub lesser : ℤ → Option ℤ → ℤ
lesser p None = p
lesser p (Some q) = elim (int_lt q p) [ true ↦ q | false ↦ p ]

-- the least priority with one more row, where that passes the test
abbrev pub least_with : (Row → Bool) → Row → Option ℤ → Option ℤ
least_with test r o = cond (test r) (Some (lesser r.priority o)) o

-- the least priority of the rows that pass the test
abbrev pub least_priority : (Row → Bool) → List Row → Option ℤ
least_priority test [] = None
least_priority test (r ∷ rs) = least_with test r (least_priority test rs)

-- has: the least priority with that hook and callback
abbrev pub priority_of : List ℕ → List ℕ → List Row → Option ℤ
priority_of hook callback rows = least_priority (is_of_callback hook callback) rows

abbrev pub is_of_hook : List ℕ → Row → Bool
is_of_hook hook r = bytes_eq r.hook hook

-- whether the hook has a row
abbrev pub has_rows : List ℕ → List Row → Bool
has_rows hook rows = list_any (is_of_hook hook) rows

-- what is returned of a row
abbrev pub entry_of : Row → Entry
entry_of r = record { priority = r.priority; callback = r.callback; accepted = r.accepted }

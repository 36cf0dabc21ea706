-- The hook table as a set of numbered rows (`WP_Hook`: `add_filter`, `remove_filter`, `remove_all_filters`, `has_filter`), and that it answers as the
-- rows of `HookRows`, which stand in order and have no numbers. A table is a set of rows (hook, priority, number, callback, accepted) with a counter.
-- Add of a hook, priority and callback that exists changes `accepted` alone and is true. Otherwise, with 1,024 rows, it changes nothing and is false;
-- else it puts in a row whose number is the counter, raises the counter and is true. Remove and remove all take out the rows named.
-- Has is the least priority with that hook and callback. The entries of a hook at a priority are returned in order of number.
use Rattle.std.specs.Prelude.{◌≡◌, ℕ, ℤ, ◌+◌, List, [], ◌∷◌, length, Bool, not, ◌||◌, cond, ltb, Option, filter, map}
use Rattle.std.specs.Cmp.Lexicographic.{slice_cmp}
use Rattle.std.specs.Ordering.{nat_cmp, int_cmp, ordering_then, is_lt}
use Rattle.std.specs.List.{list_any}
use Rattle.std.specs.declared.cmp.Ordering.{Ordering}
use Rattle.press_hooks.specs.declared.row.Row.{Row}
use Rattle.press_hooks.specs.declared.entry.Entry.{Entry}
use Rattle.press_hooks.specs.HookRows.{is_row, most_rows, accepted_as, add_row, adds_row, remove_row, is_at, is_at_any, remove_rows, is_of_callback, least_priority, priority_of, is_of_hook, has_rows, entry_of}
use Rattle.press_hooks.specs.NextEntry.{entries_at, is_ahead}

pub record NumberedRow : Type 0 where
  pub number : ℕ
  pub row : Row

-- the rows are a set: they are listed in whatever order, a new one in front
pub record NumberedTable : Type 0 where
  pub rows : List NumberedRow
  pub counter : ℕ

abbrev pub rows_of : List NumberedRow → List Row
rows_of rows = map (λ (e : NumberedRow). e.row) rows

-- ---- the edits

-- whether a row of the hook, priority and callback exists, which is also what a remove of it returns
abbrev pub numbered_stands : List ℕ → List ℕ → ℤ → NumberedTable → Bool
numbered_stands hook callback priority n = list_any (λ (e : NumberedRow). is_row hook priority callback e.row) n.rows

abbrev pub numbered_has_room : NumberedTable → Bool
numbered_has_room n = ltb (length n.rows) most_rows

-- the row named with this `accepted`, and each other one as it is
abbrev pub numbered_accept : List ℕ → List ℕ → ℤ → ℕ → NumberedTable → NumberedTable
numbered_accept hook callback priority accepted n = record n { rows = map (λ (e : NumberedRow). record e { row = accepted_as hook priority callback accepted e.row }) n.rows }

-- a row more, whose number is the counter
abbrev pub numbered_put : Row → NumberedTable → NumberedTable
numbered_put r n = record { rows = record { number = n.counter; row = r } ∷ n.rows; counter = n.counter + 1 }

abbrev pub numbered_add : List ℕ → List ℕ → ℤ → ℕ → NumberedTable → NumberedTable
numbered_add hook callback priority accepted n =
    cond (numbered_stands hook callback priority n) (numbered_accept hook callback priority accepted n)
    (cond (numbered_has_room n) (numbered_put (record { hook = hook; priority = priority; callback = callback; accepted = accepted }) n) n)

abbrev pub numbered_remove : List ℕ → List ℕ → ℤ → NumberedTable → NumberedTable
numbered_remove hook callback priority n = record n { rows = filter (λ (e : NumberedRow). not (is_row hook priority callback e.row)) n.rows }

-- at that priority, or at every one
abbrev pub numbered_remove_all : List ℕ → Option ℤ → NumberedTable → NumberedTable
numbered_remove_all hook priority n = record n { rows = filter (λ (e : NumberedRow). not (is_at_any hook priority e.row)) n.rows }

-- ---- the order of hook, priority and number

abbrev pub number_cmp : NumberedRow → NumberedRow → Ordering
number_cmp a b = nat_cmp a.number b.number

abbrev pub key_cmp : NumberedRow → NumberedRow → Ordering
key_cmp a b = ordering_then (slice_cmp nat_cmp a.row.hook b.row.hook) (ordering_then (int_cmp a.row.priority b.row.priority) (number_cmp a b))

-- before the first that is greater, or last
abbrev pub put_sorted : {X : Type 0} → (X → X → Ordering) → X → List X → List X
put_sorted cmp x [] = x ∷ []
put_sorted cmp x (y ∷ ys) = cond (is_lt (cmp x y)) (x ∷ y ∷ ys) (y ∷ put_sorted cmp x ys)

abbrev pub sorted_by : {X : Type 0} → (X → X → Ordering) → List X → List X
sorted_by cmp [] = []
sorted_by cmp (x ∷ xs) = put_sorted cmp x (sorted_by cmp xs)

abbrev pub in_order : List NumberedRow → List NumberedRow
in_order rows = sorted_by key_cmp rows

-- the rows of the set by hook, priority and number
abbrev pub rows_in_order : NumberedTable → List Row
rows_in_order n = rows_of (in_order n.rows)

-- ---- the answers, each of the set as it is listed

-- what an add answers: whether the row then exists
abbrev pub numbered_adds : List ℕ → List ℕ → ℤ → NumberedTable → Bool
numbered_adds hook callback priority n = numbered_stands hook callback priority n || numbered_has_room n

-- has: the least priority with that hook and callback
abbrev pub numbered_priority_of : List ℕ → List ℕ → NumberedTable → Option ℤ
numbered_priority_of hook callback n = least_priority (is_of_callback hook callback) (rows_of n.rows)

-- whether the hook has a row
abbrev pub numbered_has_rows : List ℕ → NumberedTable → Bool
numbered_has_rows hook n = list_any (λ (e : NumberedRow). is_of_hook hook e.row) n.rows

-- the least priority of the hook greater than the one that a run has reached
abbrev pub numbered_ahead : List ℕ → Option ℤ → NumberedTable → Option ℤ
numbered_ahead hook reached n = least_priority (is_ahead hook reached) (rows_of n.rows)

-- the entries of the hook at the priority, in order of number
abbrev pub numbered_entries : List ℕ → ℤ → NumberedTable → List Entry
numbered_entries hook priority n = map entry_of (rows_of (sorted_by number_cmp (filter (λ (e : NumberedRow). is_at hook priority e.row) n.rows)))

-- ---- after the same edits both forms answer the same

pub data Edit : Type 0 where
  Add : (hook callback : List ℕ) (priority : ℤ) (accepted : ℕ) → Edit
  Remove : (hook callback : List ℕ) (priority : ℤ) → Edit
  RemoveAll : (hook : List ℕ) (priority : Option ℤ) → Edit

abbrev pub numbered_edit : Edit → NumberedTable → NumberedTable
numbered_edit (Add hook callback priority accepted) n = numbered_add hook callback priority accepted n
numbered_edit (Remove hook callback priority) n = numbered_remove hook callback priority n
numbered_edit (RemoveAll hook priority) n = numbered_remove_all hook priority n

abbrev pub ordered_edit : Edit → List Row → List Row
ordered_edit (Add hook callback priority accepted) rows = add_row hook callback priority accepted rows
ordered_edit (Remove hook callback priority) rows = remove_row hook callback priority rows
ordered_edit (RemoveAll hook priority) rows = remove_rows hook priority rows

-- the table after edits from no rows on: the first edit of the list is made last
abbrev pub numbered_after : List Edit → NumberedTable
numbered_after [] = record { rows = []; counter = 0 }
numbered_after (e ∷ es) = numbered_edit e (numbered_after es)

abbrev pub ordered_after : List Edit → List Row
ordered_after [] = []
ordered_after (e ∷ es) = ordered_edit e (ordered_after es)

-- the rows that stand in order are the set's, and each answer is the set's
pub record Agrees (edits : List Edit) : Type 0 where
  pub rows : rows_in_order (numbered_after edits) ≡ ordered_after edits
  pub adds : (hook callback : List ℕ) (priority : ℤ) → numbered_adds hook callback priority (numbered_after edits) ≡ adds_row hook callback priority (ordered_after edits)
  pub finds : (hook callback : List ℕ) (priority : ℤ) → numbered_stands hook callback priority (numbered_after edits) ≡ list_any (is_row hook priority callback) (ordered_after edits)
  pub has : (hook callback : List ℕ) → numbered_priority_of hook callback (numbered_after edits) ≡ priority_of hook callback (ordered_after edits)
  pub has_any : (hook : List ℕ) → numbered_has_rows hook (numbered_after edits) ≡ has_rows hook (ordered_after edits)
  pub ahead : (hook : List ℕ) (reached : Option ℤ) → numbered_ahead hook reached (numbered_after edits) ≡ least_priority (is_ahead hook reached) (ordered_after edits)
  pub entries : (hook : List ℕ) (priority : ℤ) → numbered_entries hook priority (numbered_after edits) ≡ entries_at (ordered_after edits) hook priority

-- An open run is a hook, the priority last reached (or none) and a rest. Where the rest is empty, it becomes all entries of the hook
-- at the least priority greater than the one reached, in the order in which they were added, as they are now (`WP_Hook::apply_filters`).
-- A rest belongs to its run alone: no edit changes it.
use Rattle.std.specs.Prelude.{ℕ, ℤ, List, [], ◌∷◌, length, Bool, true, false, ◌&&◌, nat_eq, int_lt, Option, Some, None, is_some, filter, map}
use Rattle.press_hooks.specs.declared.row.Row.{Row}
use Rattle.press_hooks.specs.declared.entry.Entry.{Entry}
use Rattle.press_hooks.specs.declared.open_run.OpenRun.{OpenRun}
use Rattle.press_hooks.specs.HookRows.{is_of_hook, is_at, least_priority, entry_of}

-- a run that begins
abbrev pub new_run : List ℕ → OpenRun
new_run hook = record { hook = hook; reached = None; rest = [] }

abbrev pub entries_at : List Row → List ℕ → ℤ → List Entry
entries_at rows hook p = map entry_of (filter (is_at hook p) rows)

-- the run at its next priority, where there is one
abbrev pub run_at_priority : List Row → OpenRun → Option ℤ → OpenRun
run_at_priority rows run None = run
run_at_priority rows run (Some p) = record { hook = run.hook; reached = Some p; rest = entries_at rows run.hook p }

abbrev pub is_past : Option ℤ → ℤ → Bool
is_past None p = true
is_past (Some q) p = int_lt q p

abbrev pub is_ahead : List ℕ → Option ℤ → Row → Bool
is_ahead hook reached r = is_of_hook hook r && is_past reached r.priority

-- the least priority of the hook's rows greater than the one reached
abbrev pub next_priority : List Row → OpenRun → Option ℤ
next_priority rows run = least_priority (is_ahead run.hook run.reached) rows

abbrev pub refilled_by : List Row → OpenRun → List Entry → OpenRun
refilled_by rows run [] = run_at_priority rows run (next_priority rows run)
refilled_by rows run (e ∷ es) = run

-- the run with entries to hand out, where there are any
abbrev pub refilled_run : List Row → OpenRun → OpenRun
refilled_run rows run = refilled_by rows run run.rest

abbrev pub first_of : List Entry → Option Entry
first_of [] = None
first_of (e ∷ es) = Some e

-- the next entry of a run, and the run after it
abbrev pub next_entry : List Row → OpenRun → Option Entry
next_entry rows run = first_of (refilled_run rows run).rest

abbrev pub without_first : List Entry → List Entry
without_first [] = []
without_first (e ∷ es) = es

abbrev pub next_run : List Row → OpenRun → OpenRun
next_run rows run = let r = refilled_run rows run in record r { rest = without_first r.rest }

abbrev pub is_done : List Entry → Bool
is_done [] = true
is_done (e ∷ es) = false

-- whether the next entry is of another priority than the one reached: of that nothing is left, and there is a greater one
abbrev pub moves_on : List Row → OpenRun → Bool
moves_on rows run = is_done run.rest && is_some (next_priority rows run)

pub record Table : Type 0 where
  pub rows : List Row
  pub open_runs : List OpenRun

abbrev pub no_rows : Table
no_rows = record { rows = []; open_runs = [] }

-- an edit changes the rows alone
abbrev pub with_rows : List Row → Table → Table
with_rows rows t = record t { rows = rows }

-- a run is known by how many runs were open when it began: the innermost is that of the number of those around it
abbrev pub is_innermost : ℕ → List OpenRun → Bool
is_innermost id [] = false
is_innermost id (r ∷ rs) = nat_eq id (length rs)

abbrev pub run_begun : List ℕ → Table → Table
run_begun hook t = record t { open_runs = new_run hook ∷ t.open_runs }

abbrev pub without_innermost : List OpenRun → List OpenRun
without_innermost [] = []
without_innermost (r ∷ rs) = rs

abbrev pub run_ended : Table → Table
run_ended t = record t { open_runs = without_innermost t.open_runs }

-- what the innermost run returns next, and the open runs after it
abbrev pub entry_next : List Row → List OpenRun → Option Entry
entry_next rows [] = None
entry_next rows (r ∷ rs) = next_entry rows r

abbrev pub runs_next : List Row → List OpenRun → List OpenRun
runs_next rows [] = []
runs_next rows (r ∷ rs) = next_run rows r ∷ rs

-- whether the innermost run gets to another priority
abbrev pub innermost_moves_on : List Row → List OpenRun → Bool
innermost_moves_on rows [] = false
innermost_moves_on rows (r ∷ rs) = moves_on rows r

abbrev pub run_advanced : Table → Table
run_advanced t = record t { open_runs = runs_next t.rows t.open_runs }

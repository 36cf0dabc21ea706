-- Open runs with their cursors: a cursor is the number of groups of the hook at priorities not greater than the one reached, so that the next group is there.
use Rattle.std.specs.Prelude.{◌≡◌, List, cond, bytes_eq, Some, map, reverse, ℕ}
use Rattle.press_hooks.specs.declared.open_run.OpenRun.{OpenRun}
use Rattle.press_hooks.specs.declared.open_run.PlacedRun.{PlacedRun}
use Rattle.press_hooks.specs.NextEntry.{without_first}
use Rattle.press_hooks.specs.Hooked.{GroupView, HookView, group_entries, groups_named, up_to}

-- the run at the priority of a group, with its entries as they are
abbrev pub at_group : GroupView → OpenRun → OpenRun
at_group g run = record { hook = run.hook; reached = Some g.priority; rest = group_entries g }

abbrev pub without_next_entry : OpenRun → OpenRun
without_next_entry run = record run { rest = without_first run.rest }

abbrev pub IsInPlace : List HookView → PlacedRun → Type 0
IsInPlace hs r = r.cursor ≡ up_to r.run.reached (groups_named r.run.hook hs)

-- the cursor of a run of that hook, put where it belongs
abbrev pub mend_cursor : List ℕ → List HookView → PlacedRun → PlacedRun
mend_cursor hook hs r = cond (bytes_eq r.run.hook hook) (record r { cursor = up_to r.run.reached (groups_named r.run.hook hs) }) r

-- the innermost comes first
abbrev pub open_runs_of : List PlacedRun → List OpenRun
open_runs_of runs = reverse (map (λ (r : PlacedRun). r.run) runs)

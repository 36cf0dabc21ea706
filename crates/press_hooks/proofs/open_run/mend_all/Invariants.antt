use Rattle.std.proofs.Common.{◌≡◌, ◌++◌, map, take, drop}
use Rattle.press_hooks.specs.Placed.{mend_cursor}
use Rattle.press_hooks.proofs.open_run.mend_all.Given as goal

abbrev pub invariant-loop-run : goal.invariant-loop-run
invariant-loop-run l = l.run-items ≡ map (mend_cursor l.hook l.rows) (take l.run-index l.initial.run-items) ++ drop l.run-index l.initial.run-items

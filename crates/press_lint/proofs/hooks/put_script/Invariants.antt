use Rattle.std.proofs.Common.{◌≡◌, ℕ, List, take}
use Rattle.std.specs.Prelude.{◌||◌}
use Rattle.std.specs.List.{list_any}
use Rattle.press_lint.specs.NameSets.{holds}
use Rattle.press_lint.specs.Runs.{runs}
use Rattle.press_lint.proofs.hooks.put_script.Given as goal

abbrev pub invariant-loop-op : goal.invariant-loop-op
invariant-loop-op l = (q : List ℕ) → holds l.hooks q ≡ (list_any (runs q) (take l.op-index l.script) || holds l.fn.hooks q)

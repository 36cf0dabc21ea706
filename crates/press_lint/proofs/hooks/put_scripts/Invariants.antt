use Rattle.std.proofs.Common.{◌≡◌, ℕ, List, take}
use Rattle.std.specs.Prelude.{◌||◌}
use Rattle.press_lint.specs.NameSets.{holds}
use Rattle.press_lint.specs.Runs.{is_run_by}
use Rattle.press_lint.proofs.hooks.put_scripts.Given as goal

abbrev pub invariant-loop-callback : goal.invariant-loop-callback
invariant-loop-callback l = (q : List ℕ) → holds l.hooks q ≡ (is_run_by (take l.callback-index l.callbacks) q || holds l.fn.hooks q)

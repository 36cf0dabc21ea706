use Rattle.std.proofs.Common.{◌≡◌, ℕ, List, take}
use Rattle.std.specs.Prelude.{◌||◌}
use Rattle.std.specs.List.{list_any}
use Rattle.press_lint.specs.NameSets.{holds}
use Rattle.press_lint.specs.Pages as spec
use Rattle.press_lint.proofs.pages.put_script.Given as goal

abbrev pub invariant-loop-op : goal.invariant-loop-op
invariant-loop-op l = (q : List ℕ) → holds l.strays q ≡ (list_any (spec.step_strays l.run.kit.now l.run.plays.now l.tags q) (take l.op-index l.script) || holds l.fn.strays q)

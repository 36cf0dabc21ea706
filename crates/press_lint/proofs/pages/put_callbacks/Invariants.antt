use Rattle.std.proofs.Common.{◌≡◌, ℕ, List, take}
use Rattle.std.specs.Prelude.{◌||◌}
use Rattle.std.specs.List.{list_any}
use Rattle.press_kit.specs.declared.kit_parts.Scripted.{Scripted}
use Rattle.press_lint.specs.NameSets.{holds}
use Rattle.press_lint.specs.Pages as spec
use Rattle.press_lint.proofs.pages.put_callbacks.Given as goal

abbrev pub invariant-loop-callback : goal.invariant-loop-callback
invariant-loop-callback l = (q : List ℕ) → holds l.strays q ≡ (list_any (λ (c : Scripted). list_any (spec.step_strays l.run.kit.now l.run.plays.now l.tags q) c.script) (take l.callback-index l.callbacks) || holds l.fn.strays q)

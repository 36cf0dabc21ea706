use Rattle.std.proofs.Common.{◌≡◌, ℕ, List, take}
use Rattle.std.specs.Prelude.{◌||◌}
use Rattle.std.specs.List.{list_any}
use Rattle.press_callbacks.specs.declared.plugin.Plugin.{Plugin}
use Rattle.press_lint.specs.NameSets.{holds}
use Rattle.press_lint.specs.Pages as spec
use Rattle.press_lint.proofs.pages.put_plugins.Given as goal

abbrev pub invariant-loop-plugin : goal.invariant-loop-plugin
invariant-loop-plugin l = (q : List ℕ) → holds l.strays q ≡ (list_any (λ (p : Plugin). list_any (spec.load_strays l.run.kit.now l.run.plays.now l.tags q) p.load) (take l.plugin-index l.plugins) || holds l.fn.strays q)

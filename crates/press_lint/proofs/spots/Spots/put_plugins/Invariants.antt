use Rattle.std.proofs.Common.{◌≡◌, ℕ, List, take}
use Rattle.std.specs.Prelude.{◌||◌}
use Rattle.std.specs.List.{list_any}
use Rattle.press_callbacks.specs.declared.plugin.Plugin.{Plugin}
use Rattle.press_lint.specs.Spots.{has_spot, loads_at}
use Rattle.press_lint.proofs.spots.Spots.put_plugins.Given as goal

abbrev pub invariant-loop-plugin : goal.invariant-loop-plugin
invariant-loop-plugin l = (q : List ℕ) → has_spot l.self q ≡ (list_any (λ (p : Plugin). list_any (loads_at q) p.load) (take l.plugin-index l.plugins) || has_spot l.fn.self q)

use Rattle.std.proofs.Common.{◌≡◌, ℕ, List, take}
use Rattle.std.specs.Prelude.{fold}
use Rattle.press_lint.specs.Accepts.{count_of, once_plugged}
use Rattle.press_lint.proofs.accepted.Accepted.put_plugins.Given as goal

abbrev pub invariant-loop-plugin : goal.invariant-loop-plugin
invariant-loop-plugin l = (q : List ℕ) → count_of l.self q ≡ fold (once_plugged q) (count_of l.fn.self q) (take l.plugin-index l.plugins)

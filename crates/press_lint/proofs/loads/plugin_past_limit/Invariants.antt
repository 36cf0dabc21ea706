use Rattle.std.proofs.Common.{◌≡◌, drop}
use Rattle.press_lint.specs.Files.{plugin_past_limit}
use Rattle.press_lint.specs.Mistakes.{most_of}
use Rattle.press_lint.proofs.loads.plugin_past_limit.Given as goal

abbrev pub invariant-loop-n : goal.invariant-loop-n
invariant-loop-n l = plugin_past_limit l.sort l.n l.left (drop l.n l.plugins) ≡ plugin_past_limit l.sort 0 (most_of l.sort) l.plugins

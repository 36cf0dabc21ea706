use Rattle.std.proofs.Common.{◌≡◌, drop}
use Rattle.press_lint.specs.Mistakes.{first, unknown_in_plugin}
use Rattle.press_lint.proofs.unknown.unknown_in_plugins.Given as goal

abbrev pub invariant-loop-n : goal.invariant-loop-n
invariant-loop-n l = first (unknown_in_plugin l.known.callbacks.now) l.n (drop l.n l.plugins) ≡ first (unknown_in_plugin l.known.callbacks.now) 0 l.plugins

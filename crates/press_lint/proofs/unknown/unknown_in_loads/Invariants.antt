use Rattle.std.proofs.Common.{◌≡◌, drop}
use Rattle.press_lint.specs.Mistakes.{first, unknown_load}
use Rattle.press_lint.proofs.unknown.unknown_in_loads.Given as goal

abbrev pub invariant-loop-load : goal.invariant-loop-load
invariant-loop-load l = first (unknown_load l.known.callbacks.now l.plugin) l.load (drop l.load l.loads) ≡ first (unknown_load l.known.callbacks.now l.plugin) 0 l.loads

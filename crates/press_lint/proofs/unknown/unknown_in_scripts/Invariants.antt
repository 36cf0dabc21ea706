use Rattle.std.proofs.Common.{◌≡◌, drop}
use Rattle.press_lint.specs.Mistakes.{first, unknown_in_script}
use Rattle.press_lint.proofs.unknown.unknown_in_scripts.Given as goal

abbrev pub invariant-loop-n : goal.invariant-loop-n
invariant-loop-n l = first (unknown_in_script l.known.callbacks.now) l.n (drop l.n l.callbacks) ≡ first (unknown_in_script l.known.callbacks.now) 0 l.callbacks

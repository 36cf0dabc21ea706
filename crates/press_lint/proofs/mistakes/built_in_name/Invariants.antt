use Rattle.std.proofs.Common.{◌≡◌, drop}
use Rattle.press_lint.specs.Mistakes.{built_in_name, first}
use Rattle.press_lint.proofs.mistakes.built_in_name.Given as goal

abbrev pub invariant-loop-n : goal.invariant-loop-n
invariant-loop-n l = first built_in_name l.n (drop l.n l.callbacks) ≡ first built_in_name 0 l.callbacks

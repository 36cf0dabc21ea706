use Rattle.std.proofs.Common.{◌≡◌, drop}
use Rattle.press_lint.specs.Mistakes.{first, unknown_op}
use Rattle.press_lint.proofs.unknown.unknown_in_script.Given as goal

abbrev pub invariant-loop-op : goal.invariant-loop-op
invariant-loop-op l = first (unknown_op l.known.callbacks.now l.callback) l.op (drop l.op l.script) ≡ first (unknown_op l.known.callbacks.now l.callback) 0 l.script

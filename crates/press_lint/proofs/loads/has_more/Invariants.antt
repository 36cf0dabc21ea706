use Rattle.std.proofs.Common.{◌≡◌, ◌+◌, take}
use Rattle.press_lint.specs.Mistakes.{loads_of}
use Rattle.press_lint.proofs.loads.has_more.Given as goal

abbrev pub invariant-loop-p : goal.invariant-loop-p
invariant-loop-p l = l.left + loads_of l.sort (take l.p-index l.plugins) ≡ l.most

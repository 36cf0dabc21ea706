use Rattle.std.proofs.Common.{◌≡◌, ℕ, List, take}
use Rattle.std.specs.Prelude.{fold}
use Rattle.press_lint.specs.Accepts.{count_of, once_loaded}
use Rattle.press_lint.proofs.accepted.Accepted.put_loads.Given as goal

abbrev pub invariant-loop-load : goal.invariant-loop-load
invariant-loop-load l = (q : List ℕ) → count_of l.self q ≡ fold (once_loaded q) (count_of l.fn.self q) (take l.load-index l.loads)

use Rattle.std.proofs.Common.{◌≡◌, ℕ, List, take}
use Rattle.std.specs.Prelude.{fold}
use Rattle.press_lint.specs.Accepts.{count_of, once_done}
use Rattle.press_lint.proofs.accepted.Accepted.put_script.Given as goal

abbrev pub invariant-loop-op : goal.invariant-loop-op
invariant-loop-op l = (q : List ℕ) → count_of l.self q ≡ fold (once_done q) (count_of l.fn.self q) (take l.op-index l.script)

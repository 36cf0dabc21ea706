use Rattle.std.proofs.Common.{◌≡◌, ℕ, List, take}
use Rattle.std.specs.Prelude.{fold}
use Rattle.press_lint.specs.Accepts.{count_of, once_played}
use Rattle.press_lint.proofs.accepted.Accepted.put_callbacks.Given as goal

abbrev pub invariant-loop-callback : goal.invariant-loop-callback
invariant-loop-callback l = (q : List ℕ) → count_of l.self q ≡ fold (once_played q) (count_of l.fn.self q) (take l.callback-index l.callbacks)

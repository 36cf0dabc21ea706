use Rattle.std.proofs.Common.{◌≡◌, ℕ, List, take}
use Rattle.std.specs.Prelude.{◌||◌}
use Rattle.std.specs.List.{list_any}
use Rattle.press_lint.specs.Spots.{adds_at, has_spot}
use Rattle.press_lint.proofs.spots.Spots.put_script.Given as goal

abbrev pub invariant-loop-op : goal.invariant-loop-op
invariant-loop-op l = (q : List ℕ) → has_spot l.self q ≡ (list_any (adds_at q) (take l.op-index l.script) || has_spot l.fn.self q)

use Rattle.std.proofs.Common.{◌≡◌, ℕ, List, take}
use Rattle.std.specs.Prelude.{◌||◌}
use Rattle.std.specs.List.{list_any}
use Rattle.press_lint.specs.Spots.{has_spot, loads_at}
use Rattle.press_lint.proofs.spots.Spots.put_loads.Given as goal

abbrev pub invariant-loop-load : goal.invariant-loop-load
invariant-loop-load l = (q : List ℕ) → has_spot l.self q ≡ (list_any (loads_at q) (take l.load-index l.loads) || has_spot l.fn.self q)

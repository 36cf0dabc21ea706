use Rattle.std.proofs.Common.{◌≡◌, drop, map}
use Rattle.serde_json.specs.View.{view}
use Rattle.press_lint.specs.Unfit.{unfit_parts}
use Rattle.press_lint.proofs.unfit.unfit_parts.Given as goal

abbrev pub invariant-loop-n : goal.invariant-loop-n
invariant-loop-n l = unfit_parts l.path l.n (map view (drop l.n l.items)) ≡ unfit_parts l.path 0 (map view l.items)

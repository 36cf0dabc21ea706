use Rattle.std.proofs.Common.{◌≡◌, drop, map}
use Rattle.serde_json.specs.View.{view}
use Rattle.press_lint.specs.Unfit.{unfit_strings}
use Rattle.press_lint.proofs.unfit.unfit_strings.Given as goal

abbrev pub invariant-loop-n : goal.invariant-loop-n
invariant-loop-n l = unfit_strings l.path l.n (map view (drop l.n l.items)) ≡ unfit_strings l.path 0 (map view l.items)

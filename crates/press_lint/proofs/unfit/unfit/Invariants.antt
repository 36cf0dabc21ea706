use Rattle.std.proofs.Common.{◌≡◌, drop, map}
use Rattle.serde_json.specs.View.{view}
use Rattle.press_lint.specs.Unfit.{unfit}
use Rattle.press_lint.proofs.unfit.unfit.Given as goal

abbrev pub invariant-loop-i : goal.invariant-loop-i
invariant-loop-i l = unfit l.at (view l.item) (map (λ k. k.now) (drop l.i l.keys)) ≡ unfit l.at (view l.item) (map (λ k. k.now) l.keys)

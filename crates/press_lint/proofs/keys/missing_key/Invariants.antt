use Rattle.std.proofs.Common.{◌≡◌, drop, map}
use Rattle.serde_json.specs.View.{view}
use Rattle.press_lint.specs.Bad.{missing_key}
use Rattle.press_lint.proofs.keys.missing_key.Given as goal

abbrev pub invariant-loop-i : goal.invariant-loop-i
invariant-loop-i l = missing_key (map (λ k. k.now) (drop l.i l.keys)) (view l.item) ≡ missing_key (map (λ k. k.now) l.keys) (view l.item)

use Rattle.std.proofs.Common.{◌≡◌, ℕ, List, take}
use Rattle.std.specs.Prelude.{◌||◌}
use Rattle.std.specs.List.{list_any}
use Rattle.press_kit.specs.declared.kit_parts.Scripted.{Scripted}
use Rattle.press_lint.specs.Spots.{adds_at, has_spot}
use Rattle.press_lint.proofs.spots.Spots.put_callbacks.Given as goal

abbrev pub invariant-loop-callback : goal.invariant-loop-callback
invariant-loop-callback l = (q : List ℕ) → has_spot l.self q ≡ (list_any (λ (c : Scripted). list_any (adds_at q) c.script) (take l.callback-index l.callbacks) || has_spot l.fn.self q)

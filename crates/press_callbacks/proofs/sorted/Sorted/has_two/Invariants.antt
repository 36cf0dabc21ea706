use Rattle.std.proofs.Common.{◌≡◌, ◌-◌, drop}
use Rattle.press_callbacks.specs.Kits.{has_two}
use Rattle.press_callbacks.proofs.sorted.Sorted.has_two.Given as goal

abbrev pub invariant-loop-i : goal.invariant-loop-i
invariant-loop-i g l = has_two g.T.Named.name (drop (l.i - 1) l.items) ≡ has_two g.T.Named.name l.items

use Rattle.std.proofs.Common.{◌≡◌, ◌+◌, take}
use Rattle.press_callbacks.specs.Kits.{loads_of_kind}
use Rattle.press_callbacks.proofs.known.has_more_loads.Given as goal

abbrev pub invariant-loop-p : goal.invariant-loop-p
invariant-loop-p l = l.left + loads_of_kind l.kind (take l.p-index l.plugins) ≡ l.most

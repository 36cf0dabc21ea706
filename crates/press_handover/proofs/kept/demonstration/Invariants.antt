use Rattle.std.proofs.Common.{◌≡◌, ◌++◌, map}
use Rattle.std.specs.Vec.Iter.{into_iter_items}
use Rattle.press_demonstration.specs.Demonstration.{scripts, scripts_of}
use Rattle.press_handover.proofs.kept.demonstration.Given as goal

abbrev pub invariant-loop-one : goal.invariant-loop-one
invariant-loop-one l = map (λ s. (s.id, s.script)) l.callbacks.items ++ scripts_of (into_iter_items l.one-iterator) ≡ scripts

use Rattle.std.proofs.Common.{◌≡◌, ◌++◌, map}
use Rattle.std.specs.Vec.Iter.{into_iter_items}
use Rattle.press_callbacks.specs.Kits.{scripts_given}
use Rattle.press_handover.proofs.comparing.compare.Given as goal

abbrev pub invariant-loop-scripted : goal.invariant-loop-scripted
invariant-loop-scripted g l = scripts_given l.callbacks.items ++ map (λ s. (s.id, s.script)) (into_iter_items l.scripted-iterator) ≡ map (λ s. (s.id, s.script)) l.fn.old.callbacks

abbrev pub invariant-loop-scripted-2 : goal.invariant-loop-scripted-2
invariant-loop-scripted-2 g l = scripts_given l.callbacks.items ++ map (λ s. (s.id, s.script)) (into_iter_items l.scripted-iterator) ≡ map (λ s. (s.id, s.script)) l.fn.new.callbacks

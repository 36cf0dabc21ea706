use Rattle.std.proofs.Common.{◌≡◌, ◌++◌, map}
use Rattle.std.specs.Vec.Iter.{into_iter_items}
use Rattle.press_callbacks.specs.Kits.{scripts_given}
use Rattle.press_demonstration.specs.Demonstration.{scripts}
use Rattle.press_program.proofs.hosting.Hosting.serve_demonstration.Given as goal

abbrev pub invariant-loop-scripted : goal.invariant-loop-scripted
invariant-loop-scripted g l = scripts_given l.callbacks.items ++ map (λ s. (s.id, s.script)) (into_iter_items l.scripted-iterator) ≡ scripts

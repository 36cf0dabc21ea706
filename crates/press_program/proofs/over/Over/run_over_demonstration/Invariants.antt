use Rattle.std.proofs.Common.{◌≡◌, ◌≤◌, ◌++◌, length, map}
use Rattle.std.specs.Vec.Iter.{into_iter_items}
use Rattle.press_callbacks.specs.Kits.{scripts_given}
use Rattle.press_demonstration.specs.Demonstration.{demonstration, scripts}
use Rattle.press_world.specs.Starts.{AreKit, views_of}
use Rattle.press_program.proofs.over.Over.run_over_demonstration.Given as goal

abbrev pub invariant-loop-i : goal.invariant-loop-i
invariant-loop-i g l = record {
  count : length l.kits.items ≡ l._i;
  most : l._i ≤ l._i-end;
  alike : AreKit demonstration (views_of l.kits.items);
}

abbrev pub invariant-loop-scripted : goal.invariant-loop-scripted
invariant-loop-scripted g l = scripts_given l.callbacks.items ++ map (λ s. (s.id, s.script)) (into_iter_items l.scripted-iterator) ≡ scripts

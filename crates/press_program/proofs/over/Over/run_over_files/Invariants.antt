use Rattle.std.proofs.Common.{◌≡◌, ◌≤◌, ◌++◌, length, map}
use Rattle.std.specs.Vec.Iter.{into_iter_items}
use Rattle.press_callbacks.specs.Kits.{scripts_given}
use Rattle.press_lint.specs.Joints.{files_of, read_together}
use Rattle.press_program.specs.KitFiles.{view_where}
use Rattle.press_world.specs.Starts.{AreKit, views_of}
use Rattle.press_program.proofs.over.Over.run_over_files.Given as goal

abbrev pub invariant-loop-i : goal.invariant-loop-i
invariant-loop-i g l = record {
  count : length l.kits.items ≡ l._i;
  most : l._i ≤ l._i-end;
  alike : AreKit (view_where (read_together (files_of l.files))) (views_of l.kits.items);
}

abbrev pub invariant-loop-scripted : goal.invariant-loop-scripted
invariant-loop-scripted g l = scripts_given l.callbacks.items ++ map (λ s. (s.id, s.script)) (into_iter_items l.scripted-iterator) ≡ map (λ s. (s.id, s.script)) l.parts.callbacks

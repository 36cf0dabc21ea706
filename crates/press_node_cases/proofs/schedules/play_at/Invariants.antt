use Rattle.std.proofs.Common.{◌≡◌, ◌≤◌, ◌++◌, length, map}
use Rattle.std.specs.Vec.Iter.{into_iter_items}
use Rattle.press_callbacks.specs.Kits.{scripts_given}
use Rattle.press_kit.specs.KitFile.{kit_in}
use Rattle.press_world.specs.Starts.{AreKit, views_of}
use Rattle.press_kit.proofs.Kits.{view_where}
use Rattle.press_node_cases.proofs.schedules.play_at.Given as goal

abbrev pub invariant-loop-i : goal.invariant-loop-i
invariant-loop-i l = record {
  count : length l.kits.items ≡ l._i;
  most : l._i ≤ 3;
  alike : AreKit (view_where (kit_in l.kit)) (views_of l.kits.items);
}

abbrev pub invariant-loop-scripted : goal.invariant-loop-scripted
invariant-loop-scripted l = scripts_given l.callbacks.items ++ map (λ s. (s.id, s.script)) (into_iter_items l.scripted-iterator) ≡ map (λ s. (s.id, s.script)) l.parts.callbacks

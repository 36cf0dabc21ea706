use Rattle.std.proofs.Common.{◌≡◌, length, map, take}
use Rattle.press_callbacks.specs.Kits.{named_script}
use Rattle.press_callbacks.proofs.same.same_scripts.Given as goal

abbrev pub invariant-loop-i : goal.invariant-loop-i
invariant-loop-i g l = record {
  long : length l.a ≡ length l.b;
  so_far : map (named_script g.T.Named.name g.T.Scripted.script) (take l.i l.a) ≡ map (named_script g.T.Named.name g.T.Scripted.script) (take l.i l.b);
}

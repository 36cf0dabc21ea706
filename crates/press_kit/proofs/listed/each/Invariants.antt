use Rattle.std.proofs.Common.{◌≡◌, map}
use Rattle.serde_json.specs.View.{view}
use Rattle.press_kit.specs.Fields.{each}
use Rattle.press_kit.proofs.Loop.{with_front, rest}
use Rattle.press_kit.proofs.listed.each.Given as goal

abbrev pub invariant-loop-i : goal.invariant-loop-i
invariant-loop-i g l = with_front l.found.items (rest g.T.Listed.read l.at view l.values l.i) ≡ each g.T.Listed.read l.at 0 (map view l.values)

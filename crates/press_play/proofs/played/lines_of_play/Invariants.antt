use Rattle.std.proofs.Common.{◌≡◌, ◌++◌}
use Rattle.std.specs.Vec.Iter.{into_iter_items}
use Rattle.press_callbacks.specs.Kits.{scripts_given}
use Rattle.press_play.specs.Played.{scripts_of}
use Rattle.press_play.proofs.played.lines_of_play.Given as goal

abbrev pub invariant-loop-scripted : goal.invariant-loop-scripted
invariant-loop-scripted l = scripts_given l.callbacks.items ++ scripts_of (into_iter_items l.scripted-iterator) ≡ scripts_of l.fn.file.kit.callbacks

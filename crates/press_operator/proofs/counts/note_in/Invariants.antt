use Rattle.std.proofs.Common.{◌≡◌, ◌++◌, map, take, drop}
use Rattle.press_operator.specs.Counting.{with_one}
use Rattle.press_operator.proofs.counts.note_in.Given as goal

abbrev pub invariant-loop-count : goal.invariant-loop-count
invariant-loop-count l = l.counts ≡ map (with_one l.status) (take l.count-index l.initial.counts) ++ drop l.count-index l.initial.counts

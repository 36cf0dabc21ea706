use Rattle.std.proofs.Common.{◌≡◌, ◌++◌, map, take, drop}
use Rattle.press_scan.specs.Tags.{answered_by}
use Rattle.press_scan.proofs.tag_table.answer_row.Given as goal

abbrev pub invariant-loop-r : goal.invariant-loop-r
invariant-loop-r l = l.rows ≡ map (answered_by l.name l.callback) (take l.r-index l.initial.rows) ++ drop l.r-index l.initial.rows

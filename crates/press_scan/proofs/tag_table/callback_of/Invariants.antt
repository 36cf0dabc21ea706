use Rattle.std.proofs.Common.{◌≡◌, drop}
use Rattle.press_scan.specs.Tags.{callback_of}
use Rattle.press_scan.proofs.tag_table.callback_of.Given as goal

abbrev pub invariant-loop-r : goal.invariant-loop-r
invariant-loop-r l = callback_of l.name (drop l.r-index l.rows) ≡ callback_of l.name l.rows

use Rattle.std.proofs.Common.{◌-◌, ◌≤◌, length}
use Rattle.press_scan.specs.Places.{NoneBetween}
use Rattle.press_scan.specs.Shortcodes.{IsClosing}
use Rattle.press_scan.proofs.find.find_closing.Given as goal

abbrev pub invariant-loop-place : goal.invariant-loop-place
invariant-loop-place l = (l.fn.from ≤ l.at) × NoneBetween (IsClosing l.text l.name) l.fn.from l.at

abbrev pub decreases-loop-place : goal.decreases-loop-place
decreases-loop-place l = length l.text - l.at

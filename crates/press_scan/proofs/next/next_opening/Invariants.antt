use Rattle.std.proofs.Common.{◌-◌, ◌≤◌, length}
use Rattle.press_scan.specs.Tags.{names_of}
use Rattle.press_scan.specs.Places.{NoneBetween}
use Rattle.press_scan.specs.Shortcodes.{HasShortcode}
use Rattle.press_scan.proofs.next.next_opening.Given as goal

abbrev pub invariant-loop-place : goal.invariant-loop-place
invariant-loop-place l = (l.fn.from ≤ l.at) × NoneBetween (HasShortcode l.text (names_of l.tags)) l.fn.from l.at

abbrev pub decreases-loop-place : goal.decreases-loop-place
decreases-loop-place l = length l.text - l.at

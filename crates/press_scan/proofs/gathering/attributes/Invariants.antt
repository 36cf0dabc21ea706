use Rattle.std.proofs.Common.{length, ◌-◌, ◌≤◌}
use Rattle.std.specs.Str.{IsCharBoundary}
use Rattle.press_scan.proofs.Gathers.{Leads}
use Rattle.press_scan.proofs.gathering.attributes.Given as goal

abbrev pub invariant-tokens : goal.invariant-tokens
invariant-tokens l = IsCharBoundary l.text l.at × (l.found.next ≤ l.at) × Leads l.text l.at l.found.atts l.found.next

abbrev pub decreases-tokens : goal.decreases-tokens
decreases-tokens l = length l.text - l.at

use Rattle.std.proofs.Common.{◌≡◌, drop}
use Rattle.press_scan.specs.Attributes.{value_of}
use Rattle.press_scan.proofs.atts.listed_value.Given as goal

abbrev pub invariant-loop-att : goal.invariant-loop-att
invariant-loop-att l = value_of l.key (drop l.att-index l.atts) ≡ value_of l.key l.atts

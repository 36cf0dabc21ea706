use Rattle.std.proofs.Common.{drop}
use Rattle.press_handover.specs.Voted.{Visits}
use Rattle.press_handover.proofs.visiting.visit_values.Given as goal

abbrev pub invariant-loop-value : goal.invariant-loop-value
invariant-loop-value g l = (after : _) → Visits g.V.Visitor.visits l.visitor (drop l.value-index l.values) after → Visits g.V.Visitor.visits l.fn.visitor l.values after

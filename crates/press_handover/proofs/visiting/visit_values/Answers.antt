use Rattle.press_handover.proofs.Visited.{rests, turns}
use Rattle.press_handover.proofs.visiting.visit_values.Goals as goal

pub loop-value-preserved : goal.loop-value-preserved
loop-value-preserved g c = λ after rest.
    c.loop-value.invariant after (turns g.V.Visitor.visits c.args.values.now c.loop-value.value-index c.value-item.result c.loop-value.visitor c.visit.new.self after c.loop-value-test.true c.value-item.is c.in_ok-visit.ensures rest)

pub returns : goal.returns
returns g c = c.loop-value.invariant c.loop-value.visitor (rests g.V.Visitor.visits c.args.values.now c.loop-value.value-index c.loop-value.visitor c.loop-value-test.false)

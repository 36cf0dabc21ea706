use Rattle.std.proofs.Common.{◌∙◌, sym, refl, ◌≤◌, length, arith}
use Rattle.std.proofs.lemmas.Result.{err_from_is_err_and}
use Rattle.press_apply.proofs.Ticks.{takes_more, takes_refused, takes_end}
use Rattle.press_apply.proofs.work.Work.take_all.Goals as goal

pub returns-in_err-take-clause-steps : goal.returns-in_err-take-clause-steps
returns-in_err-take-clause-steps g c =
    let p = err_from_is_err_and c.from_residual.result c.from_residual.ensures.1 in
    rw (p.1, p.2) (rw (← c.loop-event.invariant.meaning) (takes_refused _ _ _ _ _ _ c.loop-event-test.true c.event-item.is c.in_err-take.ensures.steps))

pub loop-event-preserved : goal.loop-event-preserved
loop-event-preserved g c =
    record {
      meaning = sym (takes_more _ _ _ _ _ _ c.loop-event-test.true c.event-item.is c.in_ok-take.ensures.steps) ∙ c.loop-event.invariant.meaning;
      back = c.in_ok-take.ensures.back ∙ c.loop-event.invariant.back;
      limit = λ met. c.loop-event.invariant.limit (c.in_ok-take.ensures.limit refl met);
    }

pub returns-clause-steps : goal.returns-clause-steps
returns-clause-steps g c =
    let done : length c.args.events.now ≤ c.loop-event.event-index = omega arith in
    sym c.loop-event.invariant.meaning ∙ takes_end _ _ _ _ done

use Rattle.press_member.proofs.Directed.{Law}
use Rattle.press_member.proofs.Wholes.{after_moves, alike, on_moves}
use Rattle.press_member.proofs.laws.any_moves.Goals as goal

pub returns-clause-holds : goal.returns-clause-holds
returns-clause-holds g c = λ n moves h.
    let law : Law = record { new = c.each_step_agrees.ensures.new; agrees = c.each_step_agrees.ensures.step; adds = c.each_step_agrees.ensures.adds; question = c.each_step_agrees.ensures.question } in
    after_moves g.S.PromiseStore.seen law c.at_most_one_value_chosen.ensures.ever n moves h

pub returns-clause-once : goal.returns-clause-once
returns-clause-once g c = λ n early late h k.
    let law : Law = record { new = c.each_step_agrees.ensures.new; agrees = c.each_step_agrees.ensures.step; adds = c.each_step_agrees.ensures.adds; question = c.each_step_agrees.ensures.question } in
    on_moves g.S.PromiseStore.seen law c.at_most_one_value_chosen.ensures.ever n early late h k

pub returns-clause-alike : goal.returns-clause-alike
returns-clause-alike g c = λ n early late h k.
    let law : Law = record { new = c.each_step_agrees.ensures.new; agrees = c.each_step_agrees.ensures.step; adds = c.each_step_agrees.ensures.adds; question = c.each_step_agrees.ensures.question } in
    let once = c.at_most_one_value_chosen.ensures.ever in
    alike g.S.PromiseStore.seen law once n _ _ (on_moves g.S.PromiseStore.seen law once n early late h k)

use Rattle.std.proofs.Common.{◌<◌, ◌≤◌, sym, ◌∙◌, arith}
use Rattle.std.proofs.lemmas.Result.{err_from_is_err_and}
use Rattle.press_wire.proofs.Reports.{one_read, refused, none_left}
use Rattle.press_wire.proofs.reader.Reader.slot_votes.Goals as goal

pub loop-preserved : goal.loop-preserved
loop-preserved c =
    let left : c.loop.counter < c.args.count = omega (arith, c.loop-test.true) in
    rw (c.in_ok-push.ensures.pushed, c.number-least.ensures.value)
    (sym (one_read c.args.count c.loop.counter c.loop.least c.args.last c.loop.votes c.loop.self c.slot_vote.new.self c.in_ok-vote.vote left c.in_ok-vote.ensures) ∙ c.loop.invariant)

pub returns-clause-read : goal.returns-clause-read
returns-clause-read c =
    let over : c.args.count ≤ c.loop.counter = omega (arith, c.loop-test.false) in
    sym c.loop.invariant ∙ none_left c.args.count c.loop.counter c.loop.least c.args.last c.loop.votes c.loop.self over

pub returns-in_err-vote-clause-read : goal.returns-in_err-vote-clause-read
returns-in_err-vote-clause-read c =
    let left : c.loop.counter < c.args.count = omega (arith, c.loop-test.true) in
    let p = err_from_is_err_and c.from_residual.result c.from_residual.ensures.1 in
    rw (p.1, p.2) (refused c.args.count c.loop.counter c.loop.least c.args.last c.loop.votes c.loop.self _ _ left c.loop.invariant c.in_err-vote.ensures)

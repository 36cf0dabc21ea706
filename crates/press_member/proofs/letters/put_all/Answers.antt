use Rattle.std.proofs.Common.{◌∙◌, ◌++◌, sym, ap}
use Rattle.std.proofs.lemmas.Result.{err_from_is_err_and}
use Rattle.press_member.proofs.Sorting.{some_went}
use Rattle.press_member.proofs.letters.put_all.Goals as goal

pub returns-in_err-put : goal.returns-in_err-put
returns-in_err-put c =
    let p = err_from_is_err_and c.from_residual.result c.from_residual.ensures.1 in
    rw (p.1) (some_went c.args.id c.loop-message.yielded c.next.new.self.rest.items c.args.sent.items c.in-Some.message c.args.own.now.items c.loop-message.own.items c.put.new.own.items c.args.out.now.items c.loop-message.out.items c.put.new.out.items
    (ap (λ l. c.loop-message.yielded ++ l) (sym c.in-Some.ensures.steps.0) ∙ c.loop-message.invariant.from) c.loop-message.invariant.own c.loop-message.invariant.out c.in_err-put.ensures)

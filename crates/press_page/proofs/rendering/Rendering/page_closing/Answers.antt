use Rattle.std.proofs.lemmas.Result.{err_from_is_err_and}
use Rattle.press_page.proofs.Steps.{stops_after, goes_after}
use Rattle.press_page.proofs.rendering.Rendering.page_closing.Goals as goal

pub returns-in_err-fires-clause-steps : goal.returns-in_err-fires-clause-steps
returns-in_err-fires-clause-steps g c =
    let p = err_from_is_err_and c.from_residual-in_err-fires.result c.from_residual-in_err-fires.ensures.1 in
    let e = c.in_ok-action_without_args.ensures in
    let h = rw e at c.in_err-fires.ensures.steps in
    rw (p.1, p.2) (stops_after c.in_err-fires.field-0.0 _ _ h)

pub returns-clause-steps : goal.returns-clause-steps
returns-clause-steps g c = let e = c.in_ok-action_without_args.ensures in let h = rw e at c.in_ok-fires.ensures.steps in goes_after _ _ _ _ _ h c.puts.ensures.steps

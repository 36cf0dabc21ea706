use Rattle.std.proofs.lemmas.Result.{err_from_is_err_and, on_err_weaker}
use Rattle.press_text.proofs.Fronts.{in_first, in_second}
use Rattle.press_world.proofs.transcript.write_with_page.Goals as goal

pub returns-in_err-write_once-clause-err : goal.returns-in_err-write_once-clause-err
returns-in_err-write_once-clause-err g c =
    let p = err_from_is_err_and c.from_residual.result c.from_residual.ensures.1 in
    rw p.1 (in_first _ _ c.args.head.now _ c.in_err-write_once.ensures.err)

pub returns-in-Some-clause-err : goal.returns-in-Some-clause-err
returns-in-Some-clause-err g c =
    rw c.in-Some.is (on_err_weaker c.write_page.result (in_second _ _ _ c.args.head.now _ c.in_ok-write_once.ensures.ok)
    (rw c.as_bytes.ensures at c.write_page.ensures.err))

use Rattle.std.proofs.lemmas.Result.{err_from_is_err_and}
use Rattle.press_text.proofs.Fronts.{in_first, in_second}
use Rattle.press_world.proofs.transcript.write_page.Goals as goal

pub returns-in_err-write_once-clause-err : goal.returns-in_err-write_once-clause-err
returns-in_err-write_once-clause-err g c =
    let p = err_from_is_err_and c.from_residual.result c.from_residual.ensures.1 in
    rw p.1 (in_first _ _ c.args.body.now _ c.in_err-write_once.ensures.err)

pub returns-in_err-write_once-2-clause-err : goal.returns-in_err-write_once-2-clause-err
returns-in_err-write_once-2-clause-err g c =
    let p = err_from_is_err_and c.from_residual-in_err-write_once-2.result c.from_residual-in_err-write_once-2.ensures.1 in
    rw p.1 (in_second _ _ _ c.args.body.now _ c.in_ok-write_once.ensures.ok c.in_err-write_once-2.ensures.err)

use Rattle.std.proofs.lemmas.Result.{err_from_is_err_and}
use Rattle.press_text.proofs.Fronts.{in_first, in_second, left_in_first, left_in_second}
use Rattle.press_http.proofs.reply.write_both.Goals as goal

pub returns-in_err-write_bytes-clause-err : goal.returns-in_err-write_bytes-clause-err
returns-in_err-write_bytes-clause-err g c =
    let p = err_from_is_err_and c.from_residual.result c.from_residual.ensures.1 in
    rw p.1 (in_first _ _ c.args.first.now c.args.second.now c.in_err-write_bytes.ensures.err)

pub returns-in_err-write_bytes-2-clause-err : goal.returns-in_err-write_bytes-2-clause-err
returns-in_err-write_bytes-2-clause-err g c =
    let p = err_from_is_err_and c.from_residual-in_err-write_bytes-2.result c.from_residual-in_err-write_bytes-2.ensures.1 in
    rw p.1 (in_second _ _ _ c.args.first.now c.args.second.now c.in_ok-write_bytes.ensures.ok c.in_err-write_bytes-2.ensures.err)

pub returns-in_err-write_bytes-clause-left : goal.returns-in_err-write_bytes-clause-left
returns-in_err-write_bytes-clause-left g c =
    let p = err_from_is_err_and c.from_residual.result c.from_residual.ensures.1 in
    rw p.1 (left_in_first _ _ c.args.first.now c.args.second.now c.in_err-write_bytes.ensures.left)

pub returns-in_err-write_bytes-2-clause-left : goal.returns-in_err-write_bytes-2-clause-left
returns-in_err-write_bytes-2-clause-left g c =
    let p = err_from_is_err_and c.from_residual-in_err-write_bytes-2.result c.from_residual-in_err-write_bytes-2.ensures.1 in
    rw p.1 (left_in_second _ _ _ c.args.first.now c.args.second.now c.in_ok-write_bytes.ensures.ok c.in_err-write_bytes-2.ensures.left)

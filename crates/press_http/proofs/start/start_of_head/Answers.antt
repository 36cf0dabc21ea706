use Rattle.std.proofs.Common.{sym, ap, ◌∙◌, Ok}
use Rattle.std.proofs.lemmas.Result.{err_from_is_err_and}
use Rattle.press_http.proofs.Starts.{begins, begins_bad}
use Rattle.press_http.proofs.start.start_of_head.Goals as goal

pub returns-in_err-count : goal.returns-in_err-count
returns-in_err-count c left =
    let p = err_from_is_err_and c.from_residual.result c.from_residual.ensures.1 in
    rw (p.1, p.2) (begins_bad c.args.seen.now c.args.headers.now c.args.spans.now c.requires.head c.requires.room c.requires.short _ (sym c.in_err-count.ensures) left)

pub returns : goal.returns
returns c left =
    let s = c.in_ok-start.ensures in
    begins c.args.seen.now c.args.headers.now c.args.spans.now c.requires.head c.requires.room c.requires.short c.in_ok-start.start
    (sym c.in_ok-count.ensures ∙ ap Ok (sym s.2)) s.0 s.1 s.3

use Rattle.std.proofs.Common.{◌≡◌, ◌∙◌}
use Rattle.std.proofs.lemmas.Result.{err_from_is_err_and}
use Rattle.press_http.proofs.Starts.{head_refused}
use Rattle.press_http.proofs.Joined.{begun_says}
use Rattle.press_http.specs.Reads.{seen_by}
use Rattle.press_http.proofs.start.read_start.Goals as goal

pub returns-in_err-seen : goal.returns-in_err-seen
returns-in_err-seen g c =
    let t = c.in_err-seen.ensures in
    let p = err_from_is_err_and c.from_residual.result c.from_residual.ensures.1 in
    (t.0, t.1, t.2, t.3, rw (p.1, p.2) (head_refused _ _ _ t.3 t.4.0, t.4.1))

pub returns : goal.returns
returns g c =
    let t = c.in_ok-seen.ensures in
    let same : c.deref.result.now ≡ seen_by t.0 = c.deref.ensures.value ∙ t.4.0 in
    (t.0, t.1, t.2, t.3, begun_says _ _ t.0 _ (rw same at c.start_of_head.ensures _) t.4.2)

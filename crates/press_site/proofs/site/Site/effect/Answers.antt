use Rattle.std.proofs.lemmas.Result.{err_from_is_err_and}
use Rattle.press_site.proofs.site.Site.effect.Goals as goal

pub returns-in_err-changed-clause-profile : goal.returns-in_err-changed-clause-profile
returns-in_err-changed-clause-profile c = λ to e.
    let p = err_from_is_err_and c.from_residual.result c.from_residual.ensures.1 in
    rw (p.1, p.2) (λ n. c.in_err-changed.ensures.profile to e (cc))

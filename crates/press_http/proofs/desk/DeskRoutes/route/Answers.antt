use Rattle.std.proofs.Common.{rules, Ok, subst, sym}
use Rattle.press_text.specs.Gives.{Gives}
use Rattle.press_http.specs.Meanings.{Refuses}
use Rattle.press_http.specs.Desk as spec
use Rattle.press_http.proofs.Desks.{asked_is}
use Rattle.press_http.proofs.desk.DeskRoutes.route.Goals as goal

pub returns-clause-asked : goal.returns-clause-asked
returns-clause-asked c =
    subst (λ meant. Gives Refuses Ok c.asked_at.result meant)
    (sym (asked_is c.args.request.now.method c.args.request.now.target c.in_ok-place.place c.in_ok-place-2.place (search rules) (search rules)))
    (subst (λ t. Gives Refuses Ok c.asked_at.result (spec.desk_at c.in_ok-place-2.place t)) c.as_str-target.ensures c.asked_at.ensures.asked)

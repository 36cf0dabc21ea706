use Rattle.std.proofs.Common.{rules, ◌<◌, IfSome, sym, subst}
use Rattle.press_net.proofs.connections.number_before.Goals as goal

pub returns-in-None : goal.returns-in-None
returns-in-None c = (c.in-Some.connection, search rules, (search rules, search rules, search rules), search rules, search rules, subst (λ found. IfSome found (λ f. c.number-in-None.result < f.1)) (sym c.in-None.is) tt)

pub returns-in-Some-found : goal.returns-in-Some-found
returns-in-Some-found c =
    let less : c.number-in-Some-found.result < c.in-Some-found.number = search rules in
    (c.in-Some.connection, search rules, (search rules, search rules, search rules), search rules, search rules, subst (λ found. IfSome found (λ f. c.number-in-Some-found.result < f.1)) (sym c.in-Some-found.is) less)

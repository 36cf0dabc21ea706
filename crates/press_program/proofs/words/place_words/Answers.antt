use Rattle.std.proofs.Common.{rules, ap₂, codes, ◌≡◌, ◌∙◌}
use Rattle.clap.specs.Words.{app_of, rule_of, with_rule}
use Rattle.press_program.specs.Words as spec
use Rattle.press_program.proofs.words.place_words.Goals as goal

pub returns-clause-app : goal.returns-clause-app
returns-clause-app c =
    let port_is : rule_of c.long.result ≡ spec.named_rule (codes "port") = search rules in
    let id_is : rule_of c.long-2.result ≡ spec.named_rule (codes "id") = search rules in
    let peers_is : rule_of c.long-3.result ≡ spec.named_rule (codes "peers") = search rules in
    let tick_is : rule_of c.long-4.result ≡ spec.named_rule (codes "tick") = search rules in
    let helpless_is : app_of c.disable_help_flag-bare.result ≡ spec.helpless_app (codes "serve") = search rules in
    let one = c.in_ok-one.ensures.shape (search rules) ∙ ap₂ with_rule helpless_is port_is in
    let two = c.in_ok-two.ensures.shape (search rules) ∙ ap₂ with_rule one id_is in
    let three = c.in_ok-three.ensures.shape (search rules) ∙ ap₂ with_rule two peers_is in
    c.in_ok-serve.ensures.shape (search rules) ∙ ap₂ with_rule three tick_is

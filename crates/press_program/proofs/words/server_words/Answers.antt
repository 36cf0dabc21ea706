use Rattle.std.proofs.Common.{rules, ap₂, codes, ◌≡◌, ◌∙◌}
use Rattle.clap.specs.Words.{rule_of, with_rule}
use Rattle.press_program.specs.Words as spec
use Rattle.press_program.proofs.words.server_words.Goals as goal

pub returns-clause-app : goal.returns-clause-app
returns-clause-app c =
    let stay_is : rule_of c.action.result ≡ spec.flag_rule (codes "stay") = search rules in
    let status_is : rule_of c.action-2.result ≡ spec.flag_rule (codes "status") = search rules in
    let new_is : rule_of c.action-3.result ≡ spec.flag_rule (codes "new") = search rules in
    let one = c.in_ok-one.ensures.shape (search rules) ∙ ap₂ with_rule c.in_ok-valued.ensures.app stay_is in
    let two = c.in_ok-two.ensures.shape (search rules) ∙ ap₂ with_rule one status_is in
    c.in_ok-serve.ensures.shape (search rules) ∙ ap₂ with_rule two new_is

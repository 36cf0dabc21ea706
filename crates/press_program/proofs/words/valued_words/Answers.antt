use Rattle.std.proofs.Common.{rules, ap₂, codes, ◌≡◌, ◌∙◌}
use Rattle.clap.specs.Words.{rule_of, with_rule}
use Rattle.press_program.specs.Words as spec
use Rattle.press_program.proofs.words.valued_words.Goals as goal

pub returns-clause-app : goal.returns-clause-app
returns-clause-app c =
    let store_is : rule_of c.long.result ≡ spec.named_rule (codes "store") = search rules in
    let turns_is : rule_of c.long-2.result ≡ spec.named_rule (codes "turns") = search rules in
    let editor_is : rule_of c.long-3.result ≡ spec.named_rule (codes "editor") = search rules in
    let ahead_is : rule_of c.long-4.result ≡ spec.named_rule (codes "ahead") = search rules in
    let one = c.in_ok-one.ensures.shape (search rules) ∙ ap₂ with_rule c.in_ok-place.ensures.app store_is in
    let two = c.in_ok-two.ensures.shape (search rules) ∙ ap₂ with_rule one turns_is in
    let three = c.in_ok-three.ensures.shape (search rules) ∙ ap₂ with_rule two editor_is in
    c.in_ok-serve.ensures.shape (search rules) ∙ ap₂ with_rule three ahead_is

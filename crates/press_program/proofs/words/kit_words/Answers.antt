use Rattle.std.proofs.Common.{rules, ap₂, codes, ◌≡◌, ◌∙◌}
use Rattle.clap.specs.Words.{app_of, rule_of, with_rule}
use Rattle.press_program.specs.Words as spec
use Rattle.press_program.proofs.words.kit_words.Goals as goal

pub returns-clause-app : goal.returns-clause-app
returns-clause-app c =
    let old_is : rule_of c.long-old.result ≡ spec.named_rule (codes "next") = search rules in
    let new_is : rule_of c.required-new.result ≡ spec.needed_rule (codes "NEW") = search rules in
    let helpless_is : app_of c.disable_help_flag.result ≡ spec.helpless_app (codes "kit") = search rules in
    let one = c.in_ok-arg.ensures.shape (search rules) ∙ ap₂ with_rule helpless_is old_is in
    c.in_ok-kit.ensures.shape (search rules) ∙ ap₂ with_rule one new_is

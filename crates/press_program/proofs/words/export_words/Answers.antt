use Rattle.std.proofs.Common.{rules, ap₂, codes, ◌≡◌, ◌∙◌}
use Rattle.clap.specs.Words.{app_of, new_rule, rule_of, with_rule}
use Rattle.press_program.specs.Words as spec
use Rattle.press_program.proofs.words.export_words.Goals as goal

pub returns-clause-app : goal.returns-clause-app
returns-clause-app c =
    let member_is : rule_of c.required-member.result ≡ spec.needed_rule (codes "MEMBER") = search rules in
    let file_is : rule_of c.new-file.result ≡ new_rule (codes "FILE") = search rules in
    let helpless_is : app_of c.disable_help_flag.result ≡ spec.helpless_app (codes "export") = search rules in
    let one = c.in_ok-arg.ensures.shape (search rules) ∙ ap₂ with_rule helpless_is member_is in
    c.in_ok-export.ensures.shape (search rules) ∙ ap₂ with_rule one file_is

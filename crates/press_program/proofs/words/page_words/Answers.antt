use Rattle.std.proofs.Common.{rules, ap, ap₂, codes, ◌≡◌, ◌∙◌}
use Rattle.clap.specs.Words.{app_of, rule_of, with_rule}
use Rattle.press_program.specs.Words as spec
use Rattle.press_program.proofs.words.page_words.Goals as goal

pub returns-clause-app : goal.returns-clause-app
returns-clause-app c =
    let file_is : rule_of c.required-file.result ≡ spec.needed_rule (codes "FILE") = search rules in
    let target_is : rule_of c.required-target.result ≡ spec.needed_rule (codes "TARGET") = search rules in
    let helpless_is : app_of c.disable_help_flag.result ≡ spec.helpless_app (codes "page") = search rules in
    let one = c.in_ok-arg.ensures.shape (search rules) ∙ ap₂ with_rule helpless_is file_is in
    let two = c.in_ok-page.ensures.shape (search rules) ∙ ap₂ with_rule one target_is in
    let three = c.in_ok-several.ensures.app ∙ ap (λ app. spec.with_names app (codes "then")) two in
    c.in_ok-whole.ensures.app ∙ ap spec.with_kit three

use Rattle.std.proofs.Common.{rules, ap, ap₂, codes, ◌≡◌, ◌∙◌}
use Rattle.clap.specs.Words.{app_of, rule_of, with_rule}
use Rattle.press_program.specs.Words as spec
use Rattle.press_program.proofs.words.file_words.Goals as goal

pub returns-clause-app : goal.returns-clause-app
returns-clause-app c =
    let file_is : rule_of c.required-file.result ≡ spec.needed_rule (codes "FILE") = search rules in
    let helpless_is : app_of c.disable_help_flag.result ≡ spec.helpless_app c.args.name.now = search rules in
    let one = c.in_ok-named.ensures.shape (search rules) ∙ ap₂ with_rule helpless_is file_is in
    c.in_ok-whole.ensures.app ∙ ap spec.with_kit one

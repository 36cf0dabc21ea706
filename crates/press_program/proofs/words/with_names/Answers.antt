use Rattle.std.proofs.Common.{rules, ap, ◌≡◌, ◌∙◌}
use Rattle.clap.specs.Words.{Rule, app_of, rule_of, with_rule}
use Rattle.press_program.specs.Words as spec
use Rattle.press_program.proofs.words.with_names.Goals as goal

pub returns-clause-app : goal.returns-clause-app
returns-clause-app c =
    let names_are : rule_of c.action.result ≡ spec.repeated_rule c.args.id.now = search rules in
    c.in_ok-with.ensures.shape (search rules) ∙ ap (λ (r : Rule). with_rule (app_of c.args.command) r) names_are

use Rattle.std.proofs.Common.{ap, ◌∙◌}
use Rattle.press_program.specs.Words as spec
use Rattle.press_program.proofs.words.serve_words.Goals as goal

pub returns-clause-app : goal.returns-clause-app
returns-clause-app c = c.in_ok-whole.ensures.app ∙ ap spec.with_kit c.in_ok-server.ensures.app

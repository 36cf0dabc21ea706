use Rattle.press_lint.proofs.Refusals.{mistakes_are}
use Rattle.press_lint.proofs.linting.refusals_are_mistakes.Goals as goal

pub returns : goal.returns
returns c = λ cs ps. mistakes_are cs ps

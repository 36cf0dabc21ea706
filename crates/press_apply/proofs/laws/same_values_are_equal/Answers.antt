use Rattle.press_apply.proofs.Equal.{same, same_itself}
use Rattle.press_apply.proofs.laws.same_values_are_equal.Goals as goal

pub returns-clause-same : goal.returns-clause-same
returns-clause-same c = same

pub returns-clause-itself : goal.returns-clause-itself
returns-clause-itself c = same_itself

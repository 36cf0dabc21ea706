use Rattle.press_batch.proofs.Fitting.{not_refused, fitting_taken}
use Rattle.press_batch.proofs.laws.what_is_refused_is_too_long.Goals as goal

pub returns-clause-not_refused : goal.returns-clause-not_refused
returns-clause-not_refused c = not_refused

pub returns-clause-fitting : goal.returns-clause-fitting
returns-clause-fitting c = fitting_taken

use Rattle.std.proofs.Common.{sym, ◌∙◌}
use Rattle.press_batch.proofs.Taken.{batch_is_spelled}
use Rattle.press_batch.proofs.laws.batches_have_one_spelling.Goals as goal

pub returns-clause-spelled : goal.returns-clause-spelled
returns-clause-spelled c = batch_is_spelled

pub returns-clause-alone : goal.returns-clause-alone
returns-clause-alone c x y b fits_x fits_y ex ey = batch_is_spelled x b fits_x ex ∙ sym (batch_is_spelled y b fits_y ey)

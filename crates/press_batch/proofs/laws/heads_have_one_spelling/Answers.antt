use Rattle.std.proofs.Common.{sym, ◌∙◌}
use Rattle.press_batch.proofs.Taken.{head_is_spelled}
use Rattle.press_batch.proofs.laws.heads_have_one_spelling.Goals as goal

pub returns-clause-spelled : goal.returns-clause-spelled
returns-clause-spelled c = head_is_spelled

pub returns-clause-alone : goal.returns-clause-alone
returns-clause-alone c a b h fits_a fits_b ea eb = head_is_spelled a h fits_a ea ∙ sym (head_is_spelled b h fits_b eb)

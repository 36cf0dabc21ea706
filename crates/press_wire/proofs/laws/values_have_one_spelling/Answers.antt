use Rattle.std.proofs.Common.{sym, ◌∙◌}
use Rattle.press_wire.proofs.ValueLaws.{is_read}
use Rattle.press_wire.proofs.laws.values_have_one_spelling.Goals as goal

pub returns-clause-held : goal.returns-clause-held
returns-clause-held c bytes v fits e = (is_read bytes v fits e).0

pub returns-clause-spelled : goal.returns-clause-spelled
returns-clause-spelled c bytes v fits e = (is_read bytes v fits e).1

pub returns-clause-alone : goal.returns-clause-alone
returns-clause-alone c a b v fits_a fits_b ea eb = (is_read a v fits_a ea).1 ∙ sym (is_read b v fits_b eb).1

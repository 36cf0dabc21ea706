use Rattle.press_hooks.proofs.Numbers.{numbers_agree}
use Rattle.press_hooks.proofs.laws.numbered_rows_agree.Goals as goal

pub returns : goal.returns
returns c = numbers_agree

use Rattle.press_scan.proofs.Forms.{named_first}
use Rattle.press_scan.proofs.token.token_at.Goals as goal

pub returns-in-Some-clause-token : goal.returns-in-Some-clause-token
returns-in-Some-clause-token c = named_first _ _ c.in-Some.token c.in-Some.ensures.some.0

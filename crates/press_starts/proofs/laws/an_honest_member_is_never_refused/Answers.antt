use Rattle.press_starts.proofs.Histories.{made_later, made_when_told, never_forgotten}
use Rattle.press_starts.proofs.laws.an_honest_member_is_never_refused.Goals as goal

pub returns-clause-made : goal.returns-clause-made
returns-clause-made c = λ deeds later mark told. made_later later deeds mark (made_when_told deeds mark told)

pub returns-clause-heard : goal.returns-clause-heard
returns-clause-heard c = λ deeds later peer recall told. never_forgotten deeds later peer recall told

use Rattle.press_apply.proofs.Tokens.{stored, stays, answers, once}
use Rattle.press_apply.proofs.laws.token_answers_once.Goals as goal

pub returns-clause-stored : goal.returns-clause-stored
returns-clause-stored c = stored

pub returns-clause-stays : goal.returns-clause-stays
returns-clause-stays c = stays

pub returns-clause-answers : goal.returns-clause-answers
returns-clause-answers c = answers

pub returns-clause-once : goal.returns-clause-once
returns-clause-once c = once

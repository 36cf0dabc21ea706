use Rattle.press_http.proofs.routing.asked_at.Goals as goal

pub returns-in_err-front-in-Front-clause-memory : goal.returns-in_err-front-in-Front-clause-memory
returns-in_err-front-in-Front-clause-memory c = λ e. rw c.in-Front.is (λ lacks. let front = c.in_err-front-in-Front.ensures.memory (rw c.query.ensures lacks) in absurd cc)

use Rattle.press_http.proofs.desk.asked_at.Goals as goal

pub returns-in_err-number-in-Log-clause-memory : goal.returns-in_err-number-in-Log-clause-memory
returns-in_err-number-in-Log-clause-memory c = λ e. rw c.in-Log.is (λ lacks. let number = c.in_err-number-in-Log.ensures.memory (rw c.query.ensures lacks) in absurd cc)

pub returns-in-Posts-clause-memory : goal.returns-in-Posts-clause-memory
returns-in-Posts-clause-memory c = λ e. rw c.in-Posts.is (λ lacks. c.posts.ensures.memory (rw c.query-in-Posts.ensures lacks) e)

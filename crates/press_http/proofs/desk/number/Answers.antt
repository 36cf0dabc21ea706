use Rattle.press_http.proofs.desk.number.Goals as goal

pub returns-in_err-found-clause-memory : goal.returns-in_err-found-clause-memory
returns-in_err-found-clause-memory c = λ lacks. let none = c.in_err-found.ensures.memory (rw c.as_bytes.ensures.value lacks) in absurd cc

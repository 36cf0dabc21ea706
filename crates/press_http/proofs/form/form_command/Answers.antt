use Rattle.press_http.proofs.Editors.{has_one}
use Rattle.press_http.proofs.form.form_command.Goals as goal

pub returns-in-Ok-clause-memory : goal.returns-in-Ok-clause-memory
returns-in-Ok-clause-memory c = λ lacks. absurd (has_one c.args.form.now c.in-Ok.command lacks.1 c.in-Ok.ensures.gives)

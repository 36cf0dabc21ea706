use Rattle.press_run.proofs.held.Held+OpenFires.fire.Goals as goal

pub returns-clause-steps : goal.returns-clause-steps
returns-clause-steps g c = λ scripts. rw (c.deref_mut.ensures.value, c.self.view_is) at (c.fire.ensures.steps scripts)

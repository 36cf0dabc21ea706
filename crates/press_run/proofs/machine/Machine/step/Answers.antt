use Rattle.press_run.proofs.machine.Machine.step.Goals as goal

pub returns-in_ok-fire-in-Fires-clause-steps : goal.returns-in_ok-fire-in-Fires-clause-steps
returns-in_ok-fire-in-Fires-clause-steps g c = rw c.in-Fires.is (c.in_ok-fire-in-Fires.ensures.steps (g.K.Callbacks.scripts c.args.kit.now))

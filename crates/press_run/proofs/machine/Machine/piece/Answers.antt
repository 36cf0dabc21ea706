use Rattle.press_run.proofs.machine.Machine.piece.Goals as goal

pub returns-in-Came-clause-steps : goal.returns-in-Came-clause-steps
returns-in-Came-clause-steps g c = c.filter_answer.ensures.steps (g.K.Callbacks.scripts c.args.kit.now)

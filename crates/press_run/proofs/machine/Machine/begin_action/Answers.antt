use Rattle.press_run.proofs.machine.Machine.begin_action.Goals as goal

pub returns-clause-begins : goal.returns-clause-begins
returns-clause-begins g c = λ scripts. rw (c.in_ok-start.ensures, c.or_one_empty-args.ensures) at (c.begin.ensures.begins scripts)

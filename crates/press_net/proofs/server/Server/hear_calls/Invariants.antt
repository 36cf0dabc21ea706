use Rattle.press_net.proofs.server.Server.hear_calls.Given as goal

abbrev pub invariant-loop-event : goal.invariant-loop-event
invariant-loop-event g l = g.A.Answers.becomes l.fn.answers l.answers

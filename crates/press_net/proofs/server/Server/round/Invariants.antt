use Rattle.press_net.proofs.server.Server.round.Given as goal

abbrev pub invariant-loop-event : goal.invariant-loop-event
invariant-loop-event g l = g.A.Answers.becomes l.fn.answers l.answers

use Rattle.press_net.proofs.server.Server.serve.Given as goal

abbrev pub invariant-loop : goal.invariant-loop
invariant-loop g l = g.A.Answers.becomes l.fn.answers l.answers

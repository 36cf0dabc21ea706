use Rattle.press_net.proofs.server.Server.call_all.Given as goal

abbrev pub invariant-loop : goal.invariant-loop
invariant-loop g l = g.A.Answers.becomes l.fn.answers l.answers

abbrev pub invariant-loop-2 : goal.invariant-loop-2
invariant-loop-2 g l = g.A.Answers.becomes l.fn.answers l.answers

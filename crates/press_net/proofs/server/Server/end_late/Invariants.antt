use Rattle.press_net.proofs.server.Server.end_late.Given as goal

abbrev pub invariant-loop : goal.invariant-loop
invariant-loop g l = g.A.Answers.becomes l.fn.answers l.answers

abbrev pub invariant-loop-place : goal.invariant-loop-place
invariant-loop-place g l = g.A.Answers.becomes l.fn.answers l.answers

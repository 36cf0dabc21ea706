use Rattle.press_net.proofs.server.write_lines.Given as goal

abbrev pub invariant-loop : goal.invariant-loop
invariant-loop g l = g.A.Answers.becomes l.fn.answers l.answers

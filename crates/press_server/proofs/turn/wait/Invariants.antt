use Rattle.std.proofs.Common.{◌≡◌, ◌++◌}
use Rattle.press_server.proofs.turn.wait.Given as goal

abbrev pub invariant-loop-message : goal.invariant-loop-message
invariant-loop-message l = l.waiting.items ≡ l.initial.waiting.items ++ l.yielded

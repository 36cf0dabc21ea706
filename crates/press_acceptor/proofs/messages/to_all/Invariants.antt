use Rattle.std.proofs.Common.{◌≡◌}
use Rattle.press_acceptor.specs.Messages as model
use Rattle.press_acceptor.proofs.messages.to_all.Given as goal

abbrev pub invariant-loop-i : goal.invariant-loop-i
invariant-loop-i l = l.out.items ≡ model.to_all l.i l.from l.slot l.body

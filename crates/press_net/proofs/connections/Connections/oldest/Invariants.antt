use Rattle.press_net.proofs.Found.{Found}
use Rattle.press_net.proofs.connections.Connections.oldest.Given as goal

abbrev pub invariant-loop-place : goal.invariant-loop-place
invariant-loop-place l = Found l.rank l.intake l.slot-items l.place l.found

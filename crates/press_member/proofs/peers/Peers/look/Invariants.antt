use Rattle.press_member.specs.Parts.{AreSame}
use Rattle.press_member.proofs.peers.Peers.look.Given as goal

-- they are the same
abbrev pub invariant-loop-place : goal.invariant-loop-place
invariant-loop-place l = record { same : AreSame l.initial.self l.self }

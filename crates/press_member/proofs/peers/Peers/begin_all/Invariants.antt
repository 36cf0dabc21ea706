use Rattle.press_member.specs.Parts.{AreSame}
use Rattle.press_member.proofs.peers.Peers.begin_all.Given as goal

-- they are the same
abbrev pub invariant-loop-message : goal.invariant-loop-message
invariant-loop-message l = record { same : AreSame l.initial.self l.self }

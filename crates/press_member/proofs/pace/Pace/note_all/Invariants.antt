use Rattle.press_member.specs.Pacing.{HasSameSeat}
use Rattle.press_member.proofs.pace.Pace.note_all.Given as goal

abbrev pub invariant-loop-message : goal.invariant-loop-message
invariant-loop-message l = HasSameSeat l.self l.initial.self

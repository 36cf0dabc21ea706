use Rattle.press_net.specs.Lanes.{HasSameAim}
use Rattle.press_net.proofs.outgoing_connection.OutgoingConnection.read_away.Given as goal

abbrev pub invariant-loop : goal.invariant-loop
invariant-loop l = HasSameAim l.self l.initial.self

use Rattle.std.specs.Prelude.{◌≡◌}
use Rattle.press_net.proofs.connection.Connection.read_away.Given as goal

abbrev pub invariant-loop : goal.invariant-loop
invariant-loop l = l.self.is_held ≡ l.initial.self.is_held

use Rattle.std.proofs.Common.{◌≡◌}
use Rattle.press_net.proofs.connection.Connection.gather.Given as goal

abbrev pub invariant-loop : goal.invariant-loop
invariant-loop l = (l.self.phase ≡ l.fn.self.phase) × (l.self.is_kept ≡ l.fn.self.is_kept)

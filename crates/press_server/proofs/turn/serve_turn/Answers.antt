use Rattle.std.proofs.Common.{Ok, refl}
use Rattle.press_server.specs.Turns.{fault_of}
use Rattle.press_server.proofs.turn.serve_turn.Goals as goal

pub returns-then-status-eq202-clause-turn : goal.returns-then-status-eq202-clause-turn
returns-then-status-eq202-clause-turn g c = (
  Ok c.in-Ok.served,
  c.serve_one.new.node,
  c.in-Ok.ensures.served,
  (refl, (λ is. (fault_of c.wake.result, c.wake.ensures.wakes), λ other. absurd (other c.if-status-eq202.true))),
)

pub returns-else-status-eq202-clause-turn : goal.returns-else-status-eq202-clause-turn
returns-else-status-eq202-clause-turn g c = (
  Ok c.in-Ok.served,
  c.serve_one.new.node,
  c.in-Ok.ensures.served,
  (refl, (λ is. absurd (c.if-status-eq202.false is), λ other. refl)),
)

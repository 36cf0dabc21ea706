use Rattle.std.proofs.Common.{Ok, Err, inl, inr, refl}
use Rattle.press_node.specs.Nodes.{node_move}
use Rattle.press_server.proofs.Delivering.{only_sent}
use Rattle.press_server.proofs.turn.wake.Goals as goal

pub returns-in-Err-clause-wakes : goal.returns-in-Err-clause-wakes
returns-in-Err-clause-wakes g c = (Err c.in-Err.fault, c.play_event.new.node, c.in-Err.ensures.plays, (refl, refl))

pub returns-in-Ok-wait-clause-wakes : goal.returns-in-Ok-wait-clause-wakes
returns-in-Ok-wait-clause-wakes g c = (
  Ok c.in-Ok.sent.items,
  c.play_event.new.node,
  c.in-Ok.ensures.plays,
  inl (only_sent (λ a b. node_move g.S.PromiseStore.seen a b) 22 c.new-waiting.result.items c.in-Ok.sent.items c.wait.new.waiting.items _ _ _ c.new-waiting.ensures.items c.in-Ok-wait.ensures c.deliver.ensures.delivers),
)

pub returns-clause-wakes : goal.returns-clause-wakes
returns-clause-wakes g c = (Ok c.in-Ok.sent.items, c.play_event.new.node, c.in-Ok.ensures.plays, inr (refl, refl))

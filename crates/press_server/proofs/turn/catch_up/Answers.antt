use Rattle.std.proofs.Common.{Some, subst, arith, ◌∙◌}
use Rattle.press_node.specs.Nodes.{node_move}
use Rattle.press_server.specs.Turns.{Wakes}
use Rattle.press_server.specs.Turns.CatchesUp.{rests, is_refused, is_stopped, goes_on}
use Rattle.press_server.proofs.turn.catch_up.Goals as goal

pub returns-in-Some-clause-catches_up : goal.returns-in-Some-clause-catches_up
returns-in-Some-clause-catches_up g c = c.wakes.invariant.whole _ _ (is_stopped c.wakes.node c.wake.new.node c.in-Some.stop
    (subst (λ fault. Wakes (λ a b. node_move g.S.PromiseStore.seen a b) c.wakes.node c.wake.new.node (Some fault)) c.in-Some.ensures.tells c.in-Err.ensures.wakes))

pub returns-in-None-clause-catches_up : goal.returns-in-None-clause-catches_up
returns-in-None-clause-catches_up g c = c.wakes.invariant.whole _ _ (is_refused c.wakes.node c.wake.new.node c.in-Err.fault c.in-Err.ensures.wakes c.in-None.ensures.tells)

pub returns-then-applied-clause-catches_up : goal.returns-then-applied-clause-catches_up
returns-then-applied-clause-catches_up g c = c.wakes.invariant.whole _ _ (rests c.wakes.node c.wake.new.node c.in_default.ensures.wakes (omega (arith, c.if-applied.true)))

pub wakes-preserved : goal.wakes-preserved
wakes-preserved g c = record {
  kit = c.in_default.ensures.kit ∙ c.wakes.invariant.kit;
  whole = λ after stop h. c.wakes.invariant.whole after stop (goes_on c.wakes.node c.wake.new.node after stop c.in_default.ensures.wakes (omega (arith, c.if-applied.false)) h);
}

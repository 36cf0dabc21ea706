use Rattle.std.proofs.Common.{◌-◌, Ok, Err, None, Some, inl, inr, refl, arith, ◌∙◌}
use Rattle.press_node.specs.Nodes.{node_move}
use Rattle.press_node.specs.declared.fault.NodeFault.TheVariants.{NoMemory}
use Rattle.press_server.proofs.Delivering.{none_left, none_more, none_there, one_more, same_waiting}
use Rattle.press_server.proofs.turn.deliver.Goals as goal

pub loop-count-init : goal.loop-count-init
loop-count-init g c = record { kit = refl; whole = (c.args.most, omega arith, λ after fault d. d) }

pub returns-in-None-clause-delivers : goal.returns-in-None-clause-delivers
returns-in-None-clause-delivers g c =
    let i = c.loop-count.invariant.whole in
    i.2 c.loop-count.node None (none_left (λ a b. node_move g.S.PromiseStore.seen a b) i.0 c.loop-count.waiting.items c.loop-count.node (none_there _ _ c.in-None.ensures.items c.in-None.ensures.rest))

pub returns-in-Err-clause-delivers : goal.returns-in-Err-clause-delivers
returns-in-Err-clause-delivers g c =
    let i = c.loop-count.invariant.whole in
    i.2 c.play_event.new.node (Some c.in-Err.fault) (one_more (λ a b. node_move g.S.PromiseStore.seen a b) (i.0 - 1) i.0 c.loop-count.waiting.items c.pop_front.new.self.items c.in-Some.message
    c.loop-count.node c.play_event.new.node c.play_event.new.node (Err c.in-Err.fault) (Some c.in-Err.fault) (omega (arith, i.1, c.loop-count-test.true)) c.in-Some.ensures.items c.in-Err.ensures.plays (refl, refl))

pub returns-in-Err-wait-clause-delivers : goal.returns-in-Err-wait-clause-delivers
returns-in-Err-wait-clause-delivers g c =
    let i = c.loop-count.invariant.whole in
    i.2 c.play_event.new.node (Some NoMemory) (one_more (λ a b. node_move g.S.PromiseStore.seen a b) (i.0 - 1) i.0 c.loop-count.waiting.items c.pop_front.new.self.items c.in-Some.message
    c.loop-count.node c.play_event.new.node c.play_event.new.node (Ok c.in-Ok.sent.items) (Some NoMemory) (omega (arith, i.1, c.loop-count-test.true)) c.in-Some.ensures.items c.in-Ok.ensures.plays (inr (refl, refl)))

pub loop-count-preserved : goal.loop-count-preserved
loop-count-preserved g c =
    let i = c.loop-count.invariant.whole in
    record {
      kit = c.in-Ok.ensures.kit ∙ c.loop-count.invariant.kit;
      whole = (
        i.0 - 1,
        omega (arith, i.1, c.loop-count-test.true),
        λ after fault d. i.2 after fault (one_more (λ a b. node_move g.S.PromiseStore.seen a b) (i.0 - 1) i.0 c.loop-count.waiting.items c.pop_front.new.self.items c.in-Some.message
            c.loop-count.node c.play_event.new.node after (Ok c.in-Ok.sent.items) fault (omega (arith, i.1, c.loop-count-test.true)) c.in-Some.ensures.items c.in-Ok.ensures.plays
            (inl (same_waiting (λ a b. node_move g.S.PromiseStore.seen a b) (i.0 - 1) c.wait.new.waiting.items _ c.play_event.new.node after fault c.in-Ok-wait.ensures d))),
      );
    }

pub returns-clause-delivers : goal.returns-clause-delivers
returns-clause-delivers g c =
    let i = c.loop-count.invariant.whole in
    i.2 c.loop-count.node None (none_more (λ a b. node_move g.S.PromiseStore.seen a b) i.0 c.loop-count.waiting.items c.loop-count.node (omega (arith, i.1, c.loop-count-test.false)))

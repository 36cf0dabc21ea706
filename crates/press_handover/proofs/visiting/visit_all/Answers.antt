use Rattle.std.proofs.Common.{◌∙◌, ◌≤◌, ◌<◌, ◌*◌, ◌+◌, length, refl, arith}
use Rattle.press_handover.specs.Voted.{voted_values}
use Rattle.press_handover.proofs.Blocks.{full_block, last_block, past_blocks}
use Rattle.press_handover.proofs.Looking.{looks_both, looks_itself}
use Rattle.press_handover.proofs.visiting.visit_all.Goals as goal

pub loop-block-init : goal.loop-block-init
unfolding voted_values
loop-block-init g c = record {
  honest = λ h. h;
  looks = λ h. looks_itself (g.S.PromiseStore.seen c.args.store.now);
  kept = λ h. refl;
  visited = λ h after shown. shown;
}

pub loop-block-preserved : goal.loop-block-preserved
loop-block-preserved g c =
    let seen = g.S.PromiseStore.seen in
    record {
      honest = λ h. c.loop-block.invariant.honest (c.in_ok-values.ensures.honest h);
      looks = λ h.
          looks_both (seen c.args.store.now) (seen c.loop-block.store) (seen c.block_values.new.store) (c.loop-block.invariant.looks (c.in_ok-values.ensures.honest h)) (c.in_ok-values.ensures.looks h);
      kept = λ h. (c.in_ok-values.ensures.looks h).same (c.in_ok-values.ensures.opened h) ∙ c.loop-block.invariant.kept (c.in_ok-values.ensures.honest h);
      visited = λ h after rest.
          let before = c.in_ok-values.ensures.honest h in
          let full : 16 ≤ length c.deref.result.now = omega (arith, c.deref.ensures.len, c.len.ensures, c.if-len.false) in
          c.loop-block.invariant.visited before after
          (full_block g.V.Visitor.visits c.loop-block.block c.first_of.result c.loop-block-test.true c.first_of.ensures.value (seen c.loop-block.store).kept (seen c.args.store.now).kept
          (c.loop-block.invariant.kept before) c.deref.result.now (c.deref.ensures.value ∙ c.in_ok-values.ensures.values h) c.loop-block.visitor c.visit_values.new.visitor c.in_ok-visit_values.ensures full after rest);
    }

pub returns-then-len-clause-visits : goal.returns-then-len-clause-visits
returns-then-len-clause-visits g c = λ h.
    let seen = g.S.PromiseStore.seen in
    let before = c.in_ok-values.ensures.honest h in
    let few : length c.deref.result.now < 16 = omega (arith, c.deref.ensures.len, c.len.ensures, c.if-len.true) in
    c.loop-block.invariant.visited before c.visit_values.new.visitor
    (last_block g.V.Visitor.visits c.loop-block.block c.first_of.result c.loop-block-test.true c.first_of.ensures.value (seen c.loop-block.store).kept (seen c.args.store.now).kept
    (c.loop-block.invariant.kept before) c.deref.result.now (c.deref.ensures.value ∙ c.in_ok-values.ensures.values h) c.loop-block.visitor c.visit_values.new.visitor c.in_ok-visit_values.ensures few)

pub returns-clause-visits : goal.returns-clause-visits
returns-clause-visits g c = λ h.
    c.loop-block.invariant.visited h c.loop-block.visitor
    (past_blocks g.V.Visitor.visits c.loop-block.block (16 * c.loop-block.block + 1) (g.S.PromiseStore.seen c.args.store.now).kept c.loop-block.visitor c.loop-block-test.false)

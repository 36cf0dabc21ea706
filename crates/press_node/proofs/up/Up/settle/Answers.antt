use Rattle.std.proofs.Common.{rules, inl, inr, refl, ap, is_some, true, false, subst, ◌∙◌, arith}
use Rattle.press_callbacks.specs.Kits.{kit_view}
use Rattle.press_learner.specs.Chosen.{chosen_next}
use Rattle.press_node.specs.NodeEvent.{RunningNode}
use Rattle.press_node.specs.Views.{Applies, running_of}
use Rattle.press_node.proofs.Settling.{settles_start, settles_more, settles_stop, settles_out, settled_has_none, stays_folded, was_chosen}
use Rattle.press_node.proofs.up.Up.settle.Goals as goal

pub loop-i-init : goal.loop-i-init
loop-i-init g c = record {
  id = search rules;
  members = search rules;
  learner_members = search rules;
  count = c.requires.count;
  first = inl (refl, refl);
  settles = settles_start (running_of c.args.self.now);
  folded = λ f. f;
}

pub loop-i-preserved : goal.loop-i-preserved
loop-i-preserved g c =
    let kit = kit_view c.args.kit.now in
    let old = c.loop-i.self in
    let new = c.apply_next.new.self in
    let h : Applies kit old true new = subst (λ b. Applies kit old b new) c.in-Ok-true.field-0-test c.in-Ok-true.ensures.applies in
    record {
      id = c.apply_next.ensures.id ∙ c.loop-i.invariant.id;
      members = c.apply_next.ensures.members ∙ c.loop-i.invariant.members;
      learner_members = c.apply_next.ensures.learner_members ∙ c.loop-i.invariant.learner_members;
      count = c.in-Ok-true.ensures.count;
      first = inr (was_chosen c.loop-i.i old.learner c.args.self.now.learner c.loop-i.invariant.first (ap is_some h.1));
      settles = settles_more c.loop-i.i kit old new (running_of c.args.self.now) h c.loop-i.invariant.settles;
      folded = λ f. stays_folded kit old new true h (c.loop-i.invariant.folded f);
    }

pub returns-in-Ok-false-clause-settled : goal.returns-in-Ok-false-clause-settled
returns-in-Ok-false-clause-settled g c =
    let kit = kit_view c.args.kit.now in
    let old = c.loop-i.self in
    let new = c.apply_next.new.self in
    let h : Applies kit old false new = subst (λ b. Applies kit old b new) c.in-Ok-false.field-0-test c.in-Ok-false.ensures.applies in
    settles_stop c.loop-i.i kit old new (running_of c.args.self.now) (omega (arith, c.loop-i-test.true)) h c.loop-i.invariant.settles

pub returns-clause-settled : goal.returns-clause-settled
returns-clause-settled g c =
    settles_out c.loop-i.i (running_of c.loop-i.self) (running_of c.args.self.now) (omega (arith, c.loop-i-test.false)) (omega (arith, c.loop-i.auto.i-end)) c.loop-i.invariant.settles

pub returns-clause-none : goal.returns-clause-none
returns-clause-none g c =
    ap (λ (r : RunningNode). chosen_next r.learner) (settles_out c.loop-i.i (running_of c.loop-i.self) (running_of c.args.self.now) (omega (arith, c.loop-i-test.false)) (omega (arith, c.loop-i.auto.i-end)) c.loop-i.invariant.settles)
    ∙ settled_has_none c.none_is_chosen_after_64.ensures (running_of c.args.self.now) c.applied.ensures.window

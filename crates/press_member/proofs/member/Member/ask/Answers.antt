use Rattle.std.proofs.Common.{◌∙◌, refl, length, IsTrue, true, false, None}
use Rattle.std.proofs.lemmas.Result.{err_from_is_err_and}
use Rattle.press_member.specs.Acts.{view_of}
use Rattle.press_node.specs.Nodes.{node_move}
use Rattle.press_member.specs.Played.{moment_of}
use Rattle.press_member.specs.Turns.{AreQuestions}
use Rattle.press_member.proofs.Inputs.{same_then, turns_then}
use Rattle.press_member.proofs.Turning.{at_rest, deeds_for}
use Rattle.press_member.proofs.member.Member.ask.Goals as goal

pub loop-place-init : goal.loop-place-init
loop-place-init g c = record {
  same = record { id = refl; members = refl; digests = refl; chain = refl; differing = refl; kit = refl };
  turned = at_rest (λ a b. node_move g.S.PromiseStore.seen a b) (length c.args.self.now.peers.all.items) c.args.self.now.player.id AreQuestions _ (moment_of c.args.self.now.player) c.args.out.now.items tt;
  time = refl;
}

pub returns-in_err-ask_one-clause-turned : goal.returns-in_err-ask_one-clause-turned
returns-in_err-ask_one-clause-turned g c =
    let p = err_from_is_err_and c.from_residual.result c.from_residual.ensures.1 in
    rw (p.1) (turns_then (λ a b. node_move g.S.PromiseStore.seen a b) AreQuestions AreQuestions AreQuestions (view_of c.args.self.now) (view_of c.loop-place.self) (view_of c.ask_one.new.self) (IsTrue true) (IsTrue false) (IsTrue false) c.args.out.now.items c.loop-place.out.items c.ask_one.new.out.items
    c.loop-place.invariant.same c.loop-place.invariant.turned c.in_err-ask_one.ensures.turned (deeds_for None) (λ w. refl) (λ w. w))

pub loop-place-preserved : goal.loop-place-preserved
loop-place-preserved g c = record {
  same = same_then (λ a b. node_move g.S.PromiseStore.seen a b) (view_of c.args.self.now) (view_of c.loop-place.self) (view_of c.ask_one.new.self) c.loop-place.invariant.same c.in_ok-ask_one.ensures.same;
  turned = turns_then (λ a b. node_move g.S.PromiseStore.seen a b) AreQuestions AreQuestions AreQuestions (view_of c.args.self.now) (view_of c.loop-place.self) (view_of c.ask_one.new.self) (IsTrue true) (IsTrue true) (IsTrue true) c.args.out.now.items c.loop-place.out.items c.ask_one.new.out.items
      c.loop-place.invariant.same c.loop-place.invariant.turned c.in_ok-ask_one.ensures.turned (deeds_for None) (λ w. w) (λ w. w);
  time = c.in_ok-ask_one.ensures.time ∙ c.loop-place.invariant.time;
}

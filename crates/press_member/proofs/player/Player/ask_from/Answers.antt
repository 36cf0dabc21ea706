use Rattle.std.proofs.Common.{◌∙◌, refl, IsTrue, true, false, None}
use Rattle.std.proofs.lemmas.Result.{err_from_is_err_and}
use Rattle.press_node.specs.Nodes.{node_move}
use Rattle.press_member.specs.Played.{moment_of}
use Rattle.press_member.specs.Turns.{AreQuestions}
use Rattle.press_member.proofs.Turning.{at_rest, deeds_for, turns_on}
use Rattle.press_member.proofs.player.Player.ask_from.Goals as goal

pub loop-number-init : goal.loop-number-init
loop-number-init g c = record {
  node = refl;
  id = refl;
  turned = λ n member. at_rest (λ a b. node_move g.S.PromiseStore.seen a b) n c.args.self.now.id AreQuestions _ (moment_of c.args.self.now) c.args.out.now.items tt;
}

pub returns-in_err-ask_for-clause-turned : goal.returns-in_err-ask_for-clause-turned
returns-in_err-ask_for-clause-turned g c =
    let p = err_from_is_err_and c.from_residual.result c.from_residual.ensures.1 in
    rw (p.1) (λ n member.
    turns_on (λ a b. node_move g.S.PromiseStore.seen a b) n c.args.self.now.id AreQuestions AreQuestions AreQuestions (IsTrue true) (IsTrue false) (IsTrue false) (moment_of c.args.self.now) (moment_of c.loop-number.self) (moment_of c.ask_for.new.self) c.args.out.now.items c.loop-number.out.items c.ask_for.new.out.items
    (c.loop-number.invariant.turned n member) c.loop-number.self.id c.loop-number.invariant.id (c.in_err-ask_for.ensures.turned n member) (deeds_for None) (λ w. refl) (λ w. w))

pub loop-number-preserved : goal.loop-number-preserved
loop-number-preserved g c = record {
  node = c.in_ok-ask_for.ensures.node ∙ c.loop-number.invariant.node;
  id = c.in_ok-ask_for.ensures.id ∙ c.loop-number.invariant.id;
  turned = λ n member.
      turns_on (λ a b. node_move g.S.PromiseStore.seen a b) n c.args.self.now.id AreQuestions AreQuestions AreQuestions (IsTrue true) (IsTrue true) (IsTrue true) (moment_of c.args.self.now) (moment_of c.loop-number.self) (moment_of c.ask_for.new.self) c.args.out.now.items c.loop-number.out.items c.ask_for.new.out.items
      (c.loop-number.invariant.turned n member) c.loop-number.self.id c.loop-number.invariant.id (c.in_ok-ask_for.ensures.turned n member) (deeds_for None) (λ w. w) (λ w. w);
}

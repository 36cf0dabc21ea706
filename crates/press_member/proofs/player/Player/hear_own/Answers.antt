use Rattle.std.proofs.Common.{◌+◌, ◌∙◌, refl, IsTrue, true, false, arith}
use Rattle.std.proofs.lemmas.Result.{err_from_is_err_and}
use Rattle.press_node.specs.Nodes.{node_move}
use Rattle.press_member.specs.Played.{moment_of}
use Rattle.press_member.specs.Turns.{HearsAll}
use Rattle.press_member.proofs.Turning.{HearsMany, at_rest, heard, heard_out, hears_most, hears_none, hears_to, one_more, other_kind, turns_on}
use Rattle.press_member.proofs.player.Player.hear_own.Goals as goal

pub loop-count-init : goal.loop-count-init
loop-count-init g c = record {
  id = refl;
  kit = refl;
  turned = λ n. at_rest (λ a b. node_move g.S.PromiseStore.seen a b) n c.args.self.now.id (HearsMany 0) _ (moment_of c.args.self.now) c.args.out.now.items hears_none;
}

pub loop-count-preserved : goal.loop-count-preserved
loop-count-preserved g c = record {
  id = c.in_ok-play-in-Some.ensures.id ∙ c.loop-count.invariant.id;
  kit = c.in_ok-play-in-Some.ensures.kit ∙ c.loop-count.invariant.kit;
  turned = λ n.
      turns_on (λ a b. node_move g.S.PromiseStore.seen a b) n c.args.self.now.id (HearsMany c.loop-count.count) (HearsMany 1) (HearsMany (c.loop-count.count + 1)) (IsTrue true) (IsTrue true) (IsTrue true) (moment_of c.args.self.now) (moment_of c.loop-count.self) (moment_of c.play.new.self) c.args.out.now.items c.loop-count.out.items c.play.new.out.items
      (c.loop-count.invariant.turned n) c.loop-count.self.id c.loop-count.invariant.id
      (heard (λ a b. node_move g.S.PromiseStore.seen a b) n c.loop-count.self.id c.in-Some.message _ (IsTrue true) (moment_of c.loop-count.self) _ (moment_of c.play.new.self) c.loop-count.out.items c.play.new.out.items c.in-Some.ensures.items refl refl c.in_ok-play-in-Some.ensures.deed)
      (one_more c.loop-count.count) (λ w. w) (λ w. w);
}

pub returns-in-None-clause-turned : goal.returns-in-None-clause-turned
returns-in-None-clause-turned g c = λ n.
    heard_out (λ a b. node_move g.S.PromiseStore.seen a b) n c.args.self.now.id c.loop-count.count (omega (arith, c.loop-count-test.true)) (moment_of c.args.self.now) (moment_of c.loop-count.self) _ c.args.out.now.items c.loop-count.out.items (c.loop-count.invariant.turned n) refl refl c.in-None.ensures.items (c.in-None.ensures.items ∙ c.in-None.ensures.rest)

pub returns-clause-turned : goal.returns-clause-turned
returns-clause-turned g c = λ n.
    other_kind (λ a b. node_move g.S.PromiseStore.seen a b) n c.args.self.now.id (HearsMany c.loop-count.count) (HearsAll c.args.self.now.id (IsTrue true) c.args.self.now.own.items) (IsTrue true) (moment_of c.args.self.now) (moment_of c.loop-count.self) c.args.out.now.items c.loop-count.out.items (λ ds h. hears_most c.args.self.now.id c.args.self.now.own.items c.loop-count.count ds (omega (arith, c.loop-count-test.false, c.loop-count.auto.count-end)) h) (c.loop-count.invariant.turned n)

pub returns-in_err-play-in-Some-clause-turned : goal.returns-in_err-play-in-Some-clause-turned
returns-in_err-play-in-Some-clause-turned g c =
    let p = err_from_is_err_and c.from_residual.result c.from_residual.ensures.1 in
    rw (p.1) (λ n.
    turns_on (λ a b. node_move g.S.PromiseStore.seen a b) n c.args.self.now.id (HearsMany c.loop-count.count) (HearsMany 1) (HearsAll c.args.self.now.id (IsTrue false) c.args.self.now.own.items) (IsTrue true) (IsTrue false) (IsTrue false) (moment_of c.args.self.now) (moment_of c.loop-count.self) (moment_of c.play.new.self) c.args.out.now.items c.loop-count.out.items c.play.new.out.items
    (c.loop-count.invariant.turned n) c.loop-count.self.id c.loop-count.invariant.id
    (heard (λ a b. node_move g.S.PromiseStore.seen a b) n c.loop-count.self.id c.in-Some.message _ (IsTrue false) (moment_of c.loop-count.self) _ (moment_of c.play.new.self) c.loop-count.out.items c.play.new.out.items c.in-Some.ensures.items refl refl c.in_err-play-in-Some.ensures.deed)
    (hears_to c.args.self.now.id c.args.self.now.own.items c.loop-count.count (omega (arith, c.loop-count-test.true))) (λ w. refl) (λ w. w))

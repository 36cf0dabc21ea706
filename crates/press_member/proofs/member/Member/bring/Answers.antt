use Rattle.std.proofs.Common.{◌∙◌, ap, refl, length, IsTrue, true, false}
use Rattle.std.proofs.lemmas.Result.{err_from_is_err_and}
use Rattle.press_member.specs.Acts.{taken_answer}
use Rattle.press_member.specs.Played.{moment_of}
use Rattle.press_member.specs.Turns.{refusal_by}
use Rattle.press_node.specs.Nodes.{node_move}
use Rattle.press_member.proofs.Turning.{brings_turn, brought}
use Rattle.press_member.proofs.member.Member.bring.Goals as goal

pub returns-in_err-played-clause-brings : goal.returns-in_err-played-clause-brings
returns-in_err-played-clause-brings g c =
    let p = err_from_is_err_and c.from_residual.result c.from_residual.ensures.1 in
    let d = c.in_err-played.ensures.deed in
    rw (p.1) (
      refusal_by d.outcome,
      brought (λ a b. node_move g.S.PromiseStore.seen a b) (length c.args.self.now.peers.all.items) c.args.self.now.player.id c.args.event _ (IsTrue false) (moment_of c.args.self.now.player) (moment_of c.play.new.self) c.args.out.now.items c.play.new.out.items d,
      tt,
    )

pub returns-in_err-follow-clause-brings : goal.returns-in_err-follow-clause-brings
returns-in_err-follow-clause-brings g c =
    let p = err_from_is_err_and c.from_residual-in_err-follow.result c.from_residual-in_err-follow.ensures.1 in
    let d = c.in_ok-played.ensures.deed in
    let n = (length c.args.self.now.peers.all.items) in
    rw (p.1) (
      refusal_by d.outcome,
      brings_turn (λ a b. node_move g.S.PromiseStore.seen a b) n c.args.self.now.player.id c.args.event _ (IsTrue true) (IsTrue false) (IsTrue false) (moment_of c.args.self.now.player) (moment_of c.play.new.self) (moment_of c.follow.new.self) c.args.out.now.items c.play.new.out.items c.follow.new.out.items
          d c.play.new.self.id c.in_ok-played.ensures.id (c.in_err-follow.ensures.turned n) (λ w. refl) (λ w. w),
      tt,
    )

pub returns-clause-brings : goal.returns-clause-brings
returns-clause-brings g c =
    let d = c.in_ok-played.ensures.deed in
    let n = (length c.args.self.now.peers.all.items) in (
      refusal_by d.outcome,
      brings_turn (λ a b. node_move g.S.PromiseStore.seen a b) n c.args.self.now.player.id c.args.event _ (IsTrue true) (IsTrue true) (IsTrue true) (moment_of c.args.self.now.player) (moment_of c.play.new.self) (moment_of c.follow.new.self) c.args.out.now.items c.play.new.out.items c.follow.new.out.items
          d c.play.new.self.id c.in_ok-played.ensures.id (c.in_ok-follow.ensures.turned n) (λ w. w) (λ w. w),
      c.answer.ensures ∙ ap taken_answer d.refused_so,
    )

use Rattle.std.proofs.Common.{IsTrue, true, false}
use Rattle.std.proofs.lemmas.Result.{err_from_is_err_and}
use Rattle.press_node.specs.Nodes.{node_move}
use Rattle.press_member.specs.Played.{moment_of}
use Rattle.press_member.proofs.Turning.{due}
use Rattle.press_member.proofs.player.Player.wake.Goals as goal

pub returns-clause-turned : goal.returns-clause-turned
returns-clause-turned g c = λ n. due (λ a b. node_move g.S.PromiseStore.seen a b) n c.args.self.now.id _ (IsTrue true) (moment_of c.args.self.now) (moment_of c.play.new.self) c.args.out.now.items c.play.new.out.items c.in_ok-played.ensures.deed

pub returns-in_err-played-clause-turned : goal.returns-in_err-played-clause-turned
returns-in_err-played-clause-turned g c =
    let p = err_from_is_err_and c.from_residual.result c.from_residual.ensures.1 in
    rw (p.1) (λ n. due (λ a b. node_move g.S.PromiseStore.seen a b) n c.args.self.now.id _ (IsTrue false) (moment_of c.args.self.now) (moment_of c.play.new.self) c.args.out.now.items c.play.new.out.items c.in_err-played.ensures.deed)

use Rattle.press_node.specs.Nodes.{node_move}
use Rattle.press_member.specs.Played.{moment_of}
use Rattle.press_member.specs.Turns.{MayWake}
use Rattle.press_member.proofs.Turning.{at_rest, no_wake}
use Rattle.press_member.proofs.player.Player.follow.Goals as goal

pub returns-then-not-is_due-clause-turned : goal.returns-then-not-is_due-clause-turned
returns-then-not-is_due-clause-turned g c = λ n. at_rest (λ a b. node_move g.S.PromiseStore.seen a b) n c.args.self.now.id MayWake _ (moment_of c.args.self.now) c.args.out.now.items no_wake

use Rattle.std.proofs.Common.{◌≡◌, Some, length}
use Rattle.press_node.specs.Nodes.{node_move}
use Rattle.press_member.specs.Played.{moment_of}
use Rattle.press_member.specs.Turns.{MaySubmit}
use Rattle.press_member.proofs.Inputs.{none_more}
use Rattle.press_member.proofs.Turning.{at_rest}
use Rattle.press_member.proofs.member.Member.submit_stuck.Goals as goal

pub returns-in_default-clause-turned : goal.returns-in_default-clause-turned
returns-in_default-clause-turned g c = at_rest (λ a b. node_move g.S.PromiseStore.seen a b) (length c.args.self.now.peers.all.items) c.args.self.now.player.id (MaySubmit (λ it. c.args.command ≡ Some it)) _ (moment_of c.args.self.now.player) c.args.out.now.items (none_more _ (λ it. c.args.command ≡ Some it))

pub returns-then-is_waiting-clause-turned : goal.returns-then-is_waiting-clause-turned
returns-then-is_waiting-clause-turned g c = at_rest (λ a b. node_move g.S.PromiseStore.seen a b) (length c.args.self.now.peers.all.items) c.args.self.now.player.id (MaySubmit (λ it. c.args.command ≡ Some it)) _ (moment_of c.args.self.now.player) c.args.out.now.items (none_more _ (λ it. c.args.command ≡ Some it))

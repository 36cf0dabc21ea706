use Rattle.std.proofs.Common.{arith, length}
use Rattle.press_acceptor.specs.Trace.{IsMember}
use Rattle.press_node.specs.Nodes.{node_move}
use Rattle.press_member.specs.Played.{moment_of}
use Rattle.press_member.specs.Turns.{AreQuestions}
use Rattle.press_member.proofs.Turning.{at_rest}
use Rattle.press_member.proofs.member.Member.ask_one.Goals as goal

pub returns-in_default-clause-turned : goal.returns-in_default-clause-turned
returns-in_default-clause-turned g c = at_rest (λ a b. node_move g.S.PromiseStore.seen a b) (length c.args.self.now.peers.all.items) c.args.self.now.player.id AreQuestions _ (moment_of c.args.self.now.player) c.args.out.now.items tt

pub returns-then-is_busy-clause-turned : goal.returns-then-is_busy-clause-turned
returns-then-is_busy-clause-turned g c = at_rest (λ a b. node_move g.S.PromiseStore.seen a b) (length c.args.self.now.peers.all.items) c.args.self.now.player.id AreQuestions _ (moment_of c.args.self.now.player) c.args.out.now.items tt

pub returns-clause-turned : goal.returns-clause-turned
returns-clause-turned g c =
    let n = (length c.args.self.now.peers.all.items) in
    let member : IsMember n c.in-Some.to = (omega (arith, c.in-Some.ensures), omega (arith, c.in-Some.ensures, c.requires)) in
    c.ask_from.ensures.turned n member

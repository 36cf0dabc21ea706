use Rattle.std.proofs.Common.{length, IsTrue, is_ok}
use Rattle.press_node.specs.Nodes.{node_move}
use Rattle.press_member.specs.Played.{moment_of}
use Rattle.press_member.specs.Turns.{MayWake, Turned}
use Rattle.std.proofs.Common.{subst}
use Rattle.press_member.proofs.Turning.{at_rest, from_same, no_wake, still}
use Rattle.press_member.proofs.member.Member.look.Goals as goal

pub returns-in_err-look-clause-turned : goal.returns-in_err-look-clause-turned
returns-in_err-look-clause-turned g c = at_rest (λ a b. node_move g.S.PromiseStore.seen a b) (length c.args.self.now.peers.all.items) c.args.self.now.player.id MayWake _ (moment_of c.args.self.now.player) c.args.messages.now.items no_wake

pub returns-then-is_busy-clause-turned : goal.returns-then-is_busy-clause-turned
returns-then-is_busy-clause-turned g c =
    still (λ a b. node_move g.S.PromiseStore.seen a b) (length c.args.self.now.peers.all.items) c.args.self.now.player.id MayWake _ (moment_of c.args.self.now.player) (moment_of c.note_reports.new.self.player) c.args.messages.now.items c.note_reports.ensures.moment no_wake

pub returns-clause-turned : goal.returns-clause-turned
returns-clause-turned g c =
    let n = (length c.args.self.now.peers.all.items) in
    from_same (λ a b. node_move g.S.PromiseStore.seen a b) n c.args.self.now.player.id MayWake (IsTrue (is_ok c.wake.result)) (moment_of c.args.self.now.player) (moment_of c.note_reports.new.self.player) (moment_of c.wake.new.self) c.args.messages.now.items c.wake.new.out.items
    c.note_reports.ensures.moment
    (subst (λ i. Turned (λ a b. node_move g.S.PromiseStore.seen a b) n i MayWake (IsTrue (is_ok c.wake.result)) (moment_of c.note_reports.new.self.player) (moment_of c.wake.new.self) c.args.messages.now.items c.wake.new.out.items) c.note_reports.ensures.same.id (c.wake.ensures.turned n))

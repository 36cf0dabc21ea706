use Rattle.std.proofs.Common.{length, inl, inr}
use Rattle.press_node.specs.Nodes.{node_move}
use Rattle.press_member.specs.Parts.{IsDue}
use Rattle.press_member.specs.Played.{moment_of}
use Rattle.press_member.specs.Turns.{AreQuestions, MayWake}
use Rattle.press_member.proofs.Turning.{at_rest, no_wake, other_kind}
use Rattle.press_member.proofs.member.Member.do_due.Goals as goal

pub returns-in-Nothing-clause-turned : goal.returns-in-Nothing-clause-turned
returns-in-Nothing-clause-turned g c = at_rest (λ a b. node_move g.S.PromiseStore.seen a b) (length c.args.self.now.peers.all.items) c.args.self.now.player.id IsDue _ (moment_of c.args.self.now.player) c.args.messages.now.items (inl no_wake)

pub returns-in-Wake-clause-turned : goal.returns-in-Wake-clause-turned
returns-in-Wake-clause-turned g c = other_kind (λ a b. node_move g.S.PromiseStore.seen a b) (length c.args.self.now.peers.all.items) c.args.self.now.player.id MayWake IsDue _ (moment_of c.args.self.now.player) (moment_of c.wake.new.self) c.args.messages.now.items c.wake.new.out.items (λ ds h. inl h) (c.wake.ensures.turned (length c.args.self.now.peers.all.items))

pub returns-in-Look-clause-turned : goal.returns-in-Look-clause-turned
returns-in-Look-clause-turned g c = other_kind (λ a b. node_move g.S.PromiseStore.seen a b) (length c.args.self.now.peers.all.items) c.args.self.now.player.id MayWake IsDue _ (moment_of c.args.self.now.player) (moment_of c.look.new.self.player) c.args.messages.now.items c.look.new.messages.items (λ ds h. inl h) c.look.ensures.turned

pub returns-in-Ask-clause-turned : goal.returns-in-Ask-clause-turned
returns-in-Ask-clause-turned g c = other_kind (λ a b. node_move g.S.PromiseStore.seen a b) (length c.args.self.now.peers.all.items) c.args.self.now.player.id AreQuestions IsDue _ (moment_of c.args.self.now.player) (moment_of c.ask.new.self.player) c.args.messages.now.items c.ask.new.out.items (λ ds h. inr h) c.ask.ensures.turned

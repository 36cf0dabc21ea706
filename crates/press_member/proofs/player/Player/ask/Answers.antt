use Rattle.std.proofs.Common.{◌++◌, ◌∷◌, [], ◌∙◌, ap, refl}
use Rattle.press_node.specs.Nodes.{node_move}
use Rattle.press_member.specs.Members.{question}
use Rattle.press_member.specs.Played.{moment_of}
use Rattle.press_member.specs.Turns.{AreQuestions}
use Rattle.press_member.proofs.Turning.{asked, at_rest}
use Rattle.press_member.proofs.player.Player.ask.Goals as goal

pub returns-in_err-push-clause-turned : goal.returns-in_err-push-clause-turned
returns-in_err-push-clause-turned g c = λ n member. at_rest (λ a b. node_move g.S.PromiseStore.seen a b) n c.args.self.now.id AreQuestions _ (moment_of c.args.self.now) c.args.out.now.items tt

pub returns-clause-turned : goal.returns-clause-turned
returns-clause-turned g c = λ n member.
    asked (λ a b. node_move g.S.PromiseStore.seen a b) n c.args.self.now.id c.args.to c.args.slot c.push.new.self.items _ (moment_of c.args.self.now) _ c.args.out.now.items c.put_all.new.out.items refl refl member
    (c.in_ok-push.ensures.items ∙ ap (λ l. l ++ question c.args.self.now.id c.args.to c.args.slot ∷ []) c.new-sent.ensures.items) c.put_all.ensures

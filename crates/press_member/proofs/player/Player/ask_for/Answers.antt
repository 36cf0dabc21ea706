use Rattle.press_node.specs.Nodes.{node_move}
use Rattle.press_member.specs.Played.{moment_of}
use Rattle.press_member.specs.Turns.{AreQuestions}
use Rattle.press_member.proofs.Turning.{at_rest}
use Rattle.press_member.proofs.player.Player.ask_for.Goals as goal

pub returns-in-None-clause-turned : goal.returns-in-None-clause-turned
returns-in-None-clause-turned g c = λ n member. at_rest (λ a b. node_move g.S.PromiseStore.seen a b) n c.args.self.now.id AreQuestions _ (moment_of c.args.self.now) c.args.out.now.items tt

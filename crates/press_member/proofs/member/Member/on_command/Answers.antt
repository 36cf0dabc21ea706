use Rattle.std.proofs.Common.{◌∙◌, refl, sym, ap, length, IsTrue, true, false}
use Rattle.std.proofs.lemmas.Result.{err_from_is_err_and}
use Rattle.press_member.specs.declared.input.Input.TheVariants as input
use Rattle.press_node.specs.declared.event.Event.TheVariants as event
use Rattle.press_node.specs.Nodes.{node_move}
use Rattle.press_member.specs.Acts.{Submits, takes_commands, view_of}
use Rattle.press_member.specs.Played.{moment_of}
use Rattle.press_member.specs.Turns.{Brings}
use Rattle.press_member.proofs.Inputs.{closed_answer, closed_form, opened_answer, opened_form, rests, turns}
use Rattle.press_member.proofs.Turning.{other_kind}
use Rattle.press_member.proofs.member.Member.on_command.Goals as goal

pub returns-then-not-takes_commands : goal.returns-then-not-takes_commands
returns-then-not-takes_commands g c =
    record {
      acts = rests (λ a b. node_move g.S.PromiseStore.seen a b) (input.Command c.args.command) _ _ c.only.result (record { id = refl; members = refl; digests = refl; chain = refl; differing = refl; kit = refl }) refl c.only.ensures.messages
          (closed_form _ (event.Submit c.args.command) (takes_commands (view_of c.args.self.now)) c.takes_commands.result c.takes_commands.ensures c.if-not-takes_commands.true)
          (closed_answer (takes_commands (view_of c.args.self.now)) c.takes_commands.result c.only.result.answer c.takes_commands.ensures c.if-not-takes_commands.true c.only.ensures.answer)
          refl;
    }

pub returns-in_err-answer : goal.returns-in_err-answer
returns-in_err-answer g c =
    let p = err_from_is_err_and c.from_residual.result c.from_residual.ensures.1 in
    let b = c.in_err-answer.ensures in
    let e = event.Submit c.args.command in
    rw (p.1) (record {
      acts = turns (λ a b. node_move g.S.PromiseStore.seen a b) (input.Command c.args.command) _ _ _ b.brings.0 c.new-messages.result.items c.bring.new.out.items b.same c.new-messages.ensures.items
          (other_kind (λ a b. node_move g.S.PromiseStore.seen a b) (length c.args.self.now.peers.all.items) c.args.self.now.player.id (Brings e b.brings.0) (Submits (takes_commands (view_of c.args.self.now)) e b.brings.0) (IsTrue false) (moment_of c.args.self.now.player) (moment_of c.bring.new.self.player) c.new-messages.result.items c.bring.new.out.items (opened_form _ e b.brings.0 (takes_commands (view_of c.args.self.now)) (sym c.takes_commands.ensures ∙ c.if-not-takes_commands.false)) b.brings.1)
          tt tt (sym c.takes_commands.ensures ∙ c.if-not-takes_commands.false) b.same.differing;
    })

pub returns : goal.returns
returns g c =
    let b = c.in_ok-answer.ensures in
    let a = c.begin_all.ensures in
    let e = event.Submit c.args.command in
    record {
      acts = turns (λ a b. node_move g.S.PromiseStore.seen a b) (input.Command c.args.command) _ _ _ b.brings.0 c.new-messages.result.items c.bring.new.out.items (record { id = b.same.id; members = a.count ∙ b.same.members; digests = a.digests ∙ b.same.digests; chain = b.same.chain; differing = a.differing ∙ b.same.differing; kit = b.same.kit }) c.new-messages.ensures.items
          (other_kind (λ a b. node_move g.S.PromiseStore.seen a b) (length c.args.self.now.peers.all.items) c.args.self.now.player.id (Brings e b.brings.0) (Submits (takes_commands (view_of c.args.self.now)) e b.brings.0) (IsTrue true) (moment_of c.args.self.now.player) (moment_of c.bring.new.self.player) c.new-messages.result.items c.bring.new.out.items (opened_form _ e b.brings.0 (takes_commands (view_of c.args.self.now)) (sym c.takes_commands.ensures ∙ c.if-not-takes_commands.false)) b.brings.1)
          (ap (λ v. v.items) c.with.ensures.messages) (opened_answer (takes_commands (view_of c.args.self.now)) b.brings.0 c.with.result.answer (sym c.takes_commands.ensures ∙ c.if-not-takes_commands.false) (c.with.ensures.answer ∙ b.brings.2)) tt (a.differing ∙ b.same.differing);
    }

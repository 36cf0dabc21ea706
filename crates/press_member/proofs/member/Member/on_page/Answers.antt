use Rattle.std.proofs.Common.{Ok, refl, sym, subst}
use Rattle.press_member.specs.declared.input.Input.TheVariants as input
use Rattle.press_member.specs.Acts.{Acts, Shows, view_of}
use Rattle.press_node.specs.Nodes.{kit_of, node_move, state_of}
use Rattle.press_member.proofs.Inputs.{rests}
use Rattle.press_member.proofs.member.Member.on_page.Goals as goal

pub returns : goal.returns
returns g c =
    record {
      acts = subst (λ v. Acts (λ a b. node_move g.S.PromiseStore.seen a b) (input.Page c.args.target.now) (view_of c.args.self.now) v (Ok c.only.result)) (sym c.answer_to-answer.ensures.same)
          (rests (λ a b. node_move g.S.PromiseStore.seen a b) (input.Page c.args.target.now) _ (view_of c.args.self.now) c.only.result (record { id = refl; members = refl; digests = refl; chain = refl; differing = refl; kit = refl }) refl c.only.ensures.messages refl
          (subst (Shows c.args.self.now.player.pace.is_open (kit_of c.args.self.now.player.node) (state_of c.args.self.now.player.node).up c.args.target.now) (sym c.only.ensures.answer) c.answer_to-answer.ensures.shows) refl);
    }

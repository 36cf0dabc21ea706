use Rattle.std.proofs.Common.{refl}
use Rattle.press_member.specs.declared.input.Input.TheVariants as input
use Rattle.press_node.specs.Nodes.{node_move}
use Rattle.press_member.proofs.Inputs.{rests}
use Rattle.press_member.proofs.member.Member.on_end.Goals as goal

pub returns : goal.returns
returns g c =
    record { acts = rests (λ a b. node_move g.S.PromiseStore.seen a b) (input.Ended c.args.to c.args.asked c.args.is_taken) _ _ c.only.result (record { id = refl; members = c.end_asking.ensures.same.count; digests = c.end_asking.ensures.same.digests; chain = refl; differing = c.end_asking.ensures.same.differing; kit = refl }) refl c.only.ensures.messages refl c.only.ensures.answer c.end_asking.ensures.same.differing }

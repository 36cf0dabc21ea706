use Rattle.std.proofs.Common.{◌++◌, ◌∷◌, [], ap, ◌∙◌}
use Rattle.press_acceptor.specs.Messages.{message_to}
use Rattle.press_acceptor.proofs.Sends.{to_all_more}
use Rattle.press_acceptor.proofs.messages.to_all.Goals as goal

pub loop-i-preserved : goal.loop-i-preserved
loop-i-preserved c =
    c.in_ok-push.ensures.items
    ∙ ap (λ xs. xs ++ message_to c.args.heading.from c.args.heading.slot c.in_ok-body.body c.member-to.result ∷ []) c.loop-i.invariant
    ∙ to_all_more c.loop-i.i c.args.heading.from c.args.heading.slot c.member-to.result c.in_ok-body.body c.args.body.now c.in_ok-body.ensures.same c.member-to.ensures

use Rattle.std.proofs.Common.{◌≤◌, ap, ◌∙◌, refl, subst}
use Rattle.press_acceptor.specs.StoreMap.{StoreMap}
use Rattle.press_node.specs.Nodes.{state_of, store_of}
use Rattle.press_node.specs.Plays.{messages_of_result}
use Rattle.press_node.specs.States.{started_at}
use Rattle.press_member.proofs.Moving.{are_moves}
use Rattle.press_member.proofs.example.start_and_play.Goals as goal

pub returns : goal.returns
returns g c = λ comes.
    are_moves c.args.members c.args.id
    (subst (λ n. 1 ≤ n) c.number-number.ensures.value c.number-number.ensures.range.0)
    c.requires.member c.args.event (messages_of_result (λ out. out.items) c.on-outcome.result)
    (store_of c.in-Ok.node) (store_of c.on-outcome.new.self) (state_of c.in-Ok.node) (state_of c.on-outcome.new.self)
    comes
    ((c.in-Ok.ensures.looks tt).same refl ∙ c.new.ensures)
    (c.in-Ok.ensures.state tt ∙ ap (λ (k : StoreMap). started_at c.args.id c.args.members k.last_round) c.new.ensures)
    (record { member = c.on-outcome.ensures.member; whole = c.on-outcome.ensures.whole; plays = c.on-outcome.ensures.plays })

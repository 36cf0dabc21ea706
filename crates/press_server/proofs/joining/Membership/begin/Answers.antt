use Rattle.std.proofs.Common.{◌≡◌, sym, subst}
use Rattle.press_member.specs.Acts.{node_in}
use Rattle.press_net.specs.Addresses.{listed_count}
use Rattle.press_node.specs.Nodes.{node_move, state_of, store_of}
use Rattle.press_node.specs.States.{applied_count, started_at}
use Rattle.press_server.specs.Turns.{HasCaughtUp}
use Rattle.press_server.proofs.joining.Membership.begin.Goals as goal

pub returns-clause-alone : goal.returns-clause-alone
returns-clause-alone g c = λ _. subst
    (λ v. HasCaughtUp (λ a b. node_move g.S.PromiseStore.seen a b) (λ n. applied_count (state_of n))
    (λ n. (g.S.PromiseStore.seen (store_of n)).is_honest → state_of n ≡ started_at c.args.self.now.peers.own (listed_count c.args.self.now.peers.book)
    (g.S.PromiseStore.seen c.args.store).kept.last_round) (node_in v))
    (sym c.in_ok-new.ensures.begins) c.in_ok-node.ensures.caught_up

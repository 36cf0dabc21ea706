use Rattle.std.proofs.Common.{length}
use Rattle.press_node.specs.Nodes.{state_of, store_of}
use Rattle.press_member.specs.Acts.{chain_in, view_of}
use Rattle.press_member.proofs.Starting.{begun_is, its_start}
use Rattle.press_member.proofs.member.Member.start.Goals as goal

pub returns-in-Ok-start-clause-starts : goal.returns-in-Ok-start-clause-starts
returns-in-Ok-start-clause-starts g c =
    its_start g.S.PromiseStore.seen (λ node. store_of node) (λ node. state_of node) c.args.store c.args.beginning c.in-Ok-start.node (chain_in (view_of c.begin.result)) (view_of c.begin.result)
    (begun_is c.args.beginning c.in-Ok-start.node (chain_in (view_of c.begin.result)) (length c.in-Ok.peers.all.items) c.in-Ok.peers.digests c.in-Ok.peers.differing.items (view_of c.begin.result) c.begin.ensures.begins c.in-Ok.ensures.count c.in-Ok.ensures.digests c.in-Ok.ensures.differing)
    c.in-Ok-start.ensures.looks c.in-Ok-start.ensures.state

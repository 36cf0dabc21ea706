use Rattle.std.proofs.Common.{refl}
use Rattle.press_node.specs.Nodes.{node_move, state_of, store_of}
use Rattle.press_member.specs.Acts.{view_of}
use Rattle.press_member.proofs.Living.{lives_among, lives_then}
use Rattle.press_member.proofs.laws.lives_among.Goals as goal

pub returns-clause-rests : goal.returns-clause-rests
returns-clause-rests g c = refl

pub returns-clause-joined : goal.returns-clause-joined
returns-clause-joined g c = λ first last mid new h k. lives_then g.S.PromiseStore.seen (λ a b. node_move g.S.PromiseStore.seen a b) (λ node. store_of node) (λ node. state_of node) first last (view_of c.args.member.now) mid new h k

pub returns-clause-among : goal.returns-clause-among
returns-clause-among g c = λ index w steps new out own few among lives.
    lives_among g.S.PromiseStore.seen (λ a b. node_move g.S.PromiseStore.seen a b) (λ node. store_of node) (λ node. state_of node) (view_of c.args.member.now).members index steps w (view_of c.args.member.now) new out own refl few among lives

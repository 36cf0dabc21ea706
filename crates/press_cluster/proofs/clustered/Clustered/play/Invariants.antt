use Rattle.std.specs.Prelude.{◌≡◌}
use Rattle.press_cluster.specs.Going.{HasSameWays}
use Rattle.press_cluster.specs.Living.{MemberLives, MemberTakes}
use Rattle.press_cluster.proofs.clustered.Clustered.play.Given as goal

abbrev pub invariant-loop-message : goal.invariant-loop-message
invariant-loop-message g l =
    MemberLives g.S.PromiseStore.seen l.fn.self.member l.self.member
    × MemberTakes g.S.PromiseStore.seen l.fn.input l.fn.self.member l.self.member
    × HasSameWays l.self.lanes l.fn.self.lanes
    × (l.self.peers ≡ l.fn.self.peers)
    × (l.self.recollection ≡ l.fn.self.recollection)

abbrev pub invariant-loop-to : goal.invariant-loop-to
invariant-loop-to g l =
    MemberLives g.S.PromiseStore.seen l.fn.self.member l.self.member
    × MemberTakes g.S.PromiseStore.seen l.fn.input l.fn.self.member l.self.member
    × HasSameWays l.self.lanes l.fn.self.lanes
    × (l.self.peers ≡ l.fn.self.peers)
    × (l.self.recollection ≡ l.fn.self.recollection)

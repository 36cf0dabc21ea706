use Rattle.std.specs.Prelude.{◌≡◌}
use Rattle.std.specs.Vec.Iter.{into_iter_items}
use Rattle.press_cluster.specs.Going.{HasSameWays}
use Rattle.press_cluster.specs.Living.{HearsOnly, MemberLives, TakesAll, letters}
use Rattle.press_cluster.proofs.clustered.Clustered.hear_messages.Given as goal

abbrev pub invariant-loop-message : goal.invariant-loop-message
invariant-loop-message g l =
    MemberLives g.S.PromiseStore.seen l.fn.self.member l.self.member
    × HearsOnly g.S.PromiseStore.seen l.fn.from l.fn.self.member l.self.member
    × HasSameWays l.self.lanes l.fn.self.lanes
    × (l.self.peers ≡ l.fn.self.peers)
    × (l.self.recollection ≡ l.fn.self.recollection)
    × ((last : _) → TakesAll g.S.PromiseStore.seen (letters l.fn.from (into_iter_items l.message-iterator)) l.self.member last
    → TakesAll g.S.PromiseStore.seen (letters l.fn.from l.fn.messages.items) l.fn.self.member last)

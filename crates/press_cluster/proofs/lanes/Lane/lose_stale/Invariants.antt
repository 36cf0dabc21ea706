use Rattle.std.specs.Prelude.{◌≡◌, length}
use Rattle.press_cluster.specs.Going.{AreKept, HasSameWay, fresh_of, owed_count}
use Rattle.press_cluster.proofs.lanes.Lane.lose_stale.Given as goal

abbrev pub invariant-loop-self : goal.invariant-loop-self
invariant-loop-self l =
    HasSameWay l.self l.initial.self
    × AreKept (owed_count l.initial.self) (owed_count l.self)
    × (fresh_of l.fn.now l.self.waiting.items ≡ fresh_of l.fn.now l.initial.self.waiting.items)

abbrev pub decreases-loop-self : goal.decreases-loop-self
decreases-loop-self l = length l.self.waiting.items

use Rattle.std.specs.Prelude.{◌≡◌}
use Rattle.press_cluster.specs.Going.{GoIn, HasSameWay, owed_count}
use Rattle.press_cluster.proofs.lanes.Lane.move_said.Given as goal

abbrev pub invariant-loop : goal.invariant-loop
invariant-loop l =
    HasSameWay l.self l.initial.self
    × (owed_count l.self ≡ owed_count l.initial.self)
    × GoIn l.initial.self.waiting.items l.self.waiting.items l.initial.batch l.batch

use Rattle.std.specs.Prelude.{◌≡◌}
use Rattle.press_cluster.specs.Going.{GoIn, GoOut, HasSameWay, question_count}
use Rattle.press_cluster.proofs.lanes.Lane.move_all.Given as goal

abbrev pub invariant-loop : goal.invariant-loop
invariant-loop l =
    HasSameWay l.self l.initial.self
    × GoOut l.asked (question_count l.initial.self.waiting.items) (question_count l.self.waiting.items)
    × (l.self.lost ≡ l.initial.self.lost)
    × GoIn l.initial.self.waiting.items l.self.waiting.items l.initial.batch l.batch

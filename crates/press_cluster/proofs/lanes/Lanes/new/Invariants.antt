use Rattle.std.specs.Prelude.{◌≡◌, length}
use Rattle.press_cluster.proofs.lanes.Lanes.new.Given as goal

abbrev pub invariant-loop : goal.invariant-loop
invariant-loop l = length l.all.items ≡ l.counter

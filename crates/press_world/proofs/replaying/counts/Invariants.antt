use Rattle.std.proofs.Common.{◌≡◌, map, take}
use Rattle.press_world.specs.Seats.{places_of}
use Rattle.press_world.specs.Telling.{applied_count_at}
use Rattle.press_world.proofs.replaying.counts.Given as goal

abbrev pub invariant-loop-seat : goal.invariant-loop-seat
invariant-loop-seat g l = l.counts.items ≡ map applied_count_at (places_of (take l.seat-index l.seats))

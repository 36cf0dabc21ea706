use Rattle.std.proofs.Common.{◌≡◌, ◌++◌, map, take, drop}
use Rattle.press_net.specs.Talking.{is_reading, kept_unless}
use Rattle.press_net.proofs.connections.end_all_unheard.Given as goal

abbrev pub invariant-loop-slot : goal.invariant-loop-slot
invariant-loop-slot l = l.slots ≡ map (kept_unless is_reading) (take l.slot-index l.initial.slots) ++ drop l.slot-index l.initial.slots

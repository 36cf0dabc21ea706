use Rattle.std.proofs.Common.{◌≡◌, ◌≤◌, ◌++◌, map, take, drop}
use Rattle.press_net.specs.Talking.{count_of, is_late, is_unheard, kept_unless}
use Rattle.press_net.proofs.connections.end_all_late.Given as goal

abbrev pub invariant-loop-slot : goal.invariant-loop-slot
invariant-loop-slot g l = (l.slots ≡ map (kept_unless (is_late l.now)) (take l.slot-index l.initial.slots) ++ drop l.slot-index l.initial.slots)
    × (l.count ≡ count_of (is_unheard l.now) (take l.slot-index l.initial.slots)) × (l.count ≤ l.slot-index)

use Rattle.std.proofs.Common.{◌≡◌, ◌+◌, ◌≤◌, drop, true}
use Rattle.press_net.specs.Talking.{count_of}
use Rattle.press_net.proofs.connections.count_open.Given as goal

-- those before the place are counted, and those behind it are still to be
abbrev pub invariant-loop-slot : goal.invariant-loop-slot
invariant-loop-slot l = record {
  few : l.count ≤ l.slot-index;
  count : l.count + count_of (λ _. true) (drop l.slot-index l.slots) ≡ count_of (λ _. true) l.slots;
}

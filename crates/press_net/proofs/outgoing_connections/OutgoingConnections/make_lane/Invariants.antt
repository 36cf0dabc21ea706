use Rattle.std.proofs.Common.{◌≡◌, ◌++◌, ℕ, length, ◌+◌, ◌-◌, ◌≤◌, ◌<◌, replicate}
use Rattle.press_net.specs.Lanes.{queues, empty_queue}
use Rattle.press_net.proofs.outgoing_connections.OutgoingConnections.make_lane.Given as goal

abbrev pub invariant-loop-self : goal.invariant-loop-self
invariant-loop-self l =
    (count : ℕ) × (queues l.self ≡ queues l.initial.self ++ replicate count empty_queue) × (count ≤ l.place + 1 - length (queues l.initial.self))
    × (length l.self.lanes.items ≡ length (queues l.initial.self) + count) × (l.self.places ≡ l.initial.self.places)
    × (l.place < length l.initial.self.lanes.items → l.self ≡ l.initial.self)

abbrev pub decreases-loop-self : goal.decreases-loop-self
decreases-loop-self l = l.place + 1 - length l.self.lanes.items

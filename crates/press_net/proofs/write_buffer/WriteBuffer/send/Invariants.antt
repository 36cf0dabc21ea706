use Rattle.std.proofs.Common.{◌≡◌, ◌≤◌, ◌-◌, drop, length, take}
use Rattle.std.specs.Io.KnownBytes.{Appends}
use Rattle.press_net.proofs.write_buffer.WriteBuffer.send.Given as goal

abbrev pub invariant-loop-self : goal.invariant-loop-self
invariant-loop-self g l = (l.self.bytes ≡ l.initial.self.bytes) × (l.initial.self.sent ≤ l.self.sent)
    × (l.initial.self.sent ≤ length l.initial.self.bytes.items → l.self.sent ≤ length l.initial.self.bytes.items)
    × (l.initial.self.sent ≤ length l.initial.self.bytes.items → Appends (g.W.Outlet.contents l.initial.writer) (g.W.Outlet.contents l.writer) (take (l.self.sent - l.initial.self.sent) (drop l.initial.self.sent l.initial.self.bytes.items)))

abbrev pub decreases-loop-self : goal.decreases-loop-self
decreases-loop-self g l = length l.self.bytes.items - l.self.sent

use Rattle.std.proofs.Common.{◌≡◌, ◌<◌, ◌^◌, take}
use Rattle.std.specs.List.{fold}
use Rattle.press_events.specs.Marks.{with_byte}
use Rattle.press_events.proofs.marks.mark.Given as goal

abbrev pub invariant-loop-byte : goal.invariant-loop-byte
invariant-loop-byte l = (l.mark ≡ fold with_byte 0 (take l.byte-index l.byte-items)) × (l.mark < 2 ^ 32)

use Rattle.std.proofs.Common.{◌≡◌, ◌+◌, length, take}
use Rattle.press_callbacks.specs.Turns.{text_of}
use Rattle.press_callbacks.proofs.sizes.is_within.Given as goal

abbrev pub invariant-loop-part : goal.invariant-loop-part
invariant-loop-part l = l.room + length (text_of l.call (take l.part-index l.parts)) ≡ l.most

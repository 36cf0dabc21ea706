use Rattle.std.proofs.Common.{◌≡◌, ◌+◌, length, take}
use Rattle.press_text.specs.Escapes.{escaped_text}
use Rattle.press_callbacks.proofs.sizes.room_behind_escape.Given as goal

abbrev pub invariant-loop-byte : goal.invariant-loop-byte
invariant-loop-byte l = l.left + length (escaped_text (take l.byte-index l.text)) ≡ l.room

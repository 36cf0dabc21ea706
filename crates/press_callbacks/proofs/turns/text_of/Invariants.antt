use Rattle.std.proofs.Common.{◌≡◌, take}
use Rattle.press_callbacks.specs.Turns.{text_of}
use Rattle.press_callbacks.proofs.turns.text_of.Given as goal

abbrev pub invariant-loop-part : goal.invariant-loop-part
invariant-loop-part l = l.text ≡ text_of l.call (take l.part-index l.parts)

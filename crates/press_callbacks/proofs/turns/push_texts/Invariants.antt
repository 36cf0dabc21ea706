use Rattle.std.proofs.Common.{◌≡◌, ◌++◌, map, take}
use Rattle.press_callbacks.specs.Turns.{text_of}
use Rattle.press_callbacks.proofs.turns.push_texts.Given as goal

abbrev pub invariant-loop-parts : goal.invariant-loop-parts
invariant-loop-parts l = l.texts.items ≡ l.initial.texts.items ++ map (text_of l.call) (take l.parts-index l.all)

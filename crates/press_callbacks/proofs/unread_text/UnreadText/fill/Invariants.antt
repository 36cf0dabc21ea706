use Rattle.std.proofs.Common.{◌≡◌, length}
use Rattle.press_callbacks.specs.UnreadText.{unread}
use Rattle.press_callbacks.proofs.unread_text.UnreadText.fill.Given as goal

abbrev pub invariant-loop-first : goal.invariant-loop-first
invariant-loop-first l = unread l.self ≡ unread l.initial.self

abbrev pub decreases-loop-first : goal.decreases-loop-first
decreases-loop-first l = length l.self.parts.now

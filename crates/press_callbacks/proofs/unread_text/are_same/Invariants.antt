use Rattle.std.proofs.Common.{◌≡◌, length, bytes_eq}
use Rattle.press_callbacks.specs.UnreadText.{unread}
use Rattle.press_callbacks.proofs.unread_text.are_same.Given as goal

abbrev pub invariant-loop-left : goal.invariant-loop-left
invariant-loop-left l = bytes_eq (unread l.left) (unread l.right) ≡ bytes_eq (unread l.initial.left) (unread l.initial.right)

abbrev pub decreases-loop-left : goal.decreases-loop-left
decreases-loop-left l = length (unread l.left)

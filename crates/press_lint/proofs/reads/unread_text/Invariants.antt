use Rattle.std.proofs.Common.{◌≡◌, drop}
use Rattle.press_lint.specs.Reads.{unread_text}
use Rattle.press_lint.proofs.reads.unread_text.Given as goal

abbrev pub invariant-loop-i : goal.invariant-loop-i
invariant-loop-i l = unread_text l.most (drop l.i l.parts) ≡ unread_text l.most l.parts

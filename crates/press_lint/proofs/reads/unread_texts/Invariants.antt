use Rattle.std.proofs.Common.{◌≡◌, drop}
use Rattle.press_lint.specs.Reads.{unread_texts}
use Rattle.press_lint.proofs.reads.unread_texts.Given as goal

abbrev pub invariant-loop-i : goal.invariant-loop-i
invariant-loop-i l = unread_texts l.most (drop l.i l.texts) ≡ unread_texts l.most l.texts

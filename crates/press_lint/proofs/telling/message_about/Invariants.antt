use Rattle.std.proofs.Common.{◌≡◌, drop, map}
use Rattle.press_lint.specs.Files.{message_from, message_about}
use Rattle.press_lint.specs.Joints.{share_of}
use Rattle.press_lint.proofs.telling.message_about.Given as goal

abbrev pub invariant-loop-i : goal.invariant-loop-i
invariant-loop-i l = message_from l.mistake l.at (map share_of (drop l.i l.shares)) l.parts ≡ message_about (record { kit = l.fn.parts; shares = map share_of l.shares }) l.mistake

use Rattle.std.proofs.Common.{◌≡◌, drop, map}
use Rattle.press_lint.specs.Files.{sharer}
use Rattle.press_lint.specs.Joints.{share_of}
use Rattle.press_lint.proofs.telling.sharer.Given as goal

abbrev pub invariant-loop-i : goal.invariant-loop-i
invariant-loop-i l = sharer l.at l.name (map share_of (drop l.i l.shares)) l.parts ≡ sharer l.at l.name (map share_of l.shares) l.fn.parts

use Rattle.std.proofs.Common.{◌≡◌, ◌++◌, drop, map, string_bytes}
use Rattle.press_lint.specs.Files.{slips_from}
use Rattle.press_lint.specs.Joints.{share_of}
use Rattle.press_lint.proofs.files.slips_from.Given as goal

abbrev pub invariant-loop-i : goal.invariant-loop-i
invariant-loop-i l = string_bytes l.out ++ slips_from l.before (map share_of (drop l.i l.shares)) l.parts ≡ slips_from l.before (map share_of l.shares) l.fn.parts

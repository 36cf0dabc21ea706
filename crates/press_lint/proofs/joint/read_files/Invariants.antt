use Rattle.std.proofs.Common.{◌≡◌, drop}
use Rattle.press_lint.specs.Joints.{files_of, joint_of, read_behind, read_together}
use Rattle.press_lint.proofs.joint.read_files.Given as goal

abbrev pub invariant-loop-i : goal.invariant-loop-i
invariant-loop-i l = read_behind (joint_of l.joint) (files_of (drop l.i l.files)) ≡ read_together (files_of l.files)

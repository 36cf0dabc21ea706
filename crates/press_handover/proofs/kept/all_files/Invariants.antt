use Rattle.std.proofs.Common.{◌≡◌, ◌++◌, drop, map}
use Rattle.press_lint.specs.Joints.{File, files_of}
use Rattle.press_handover.specs.Kept.{files_bytes}
use Rattle.press_handover.proofs.kept.all_files.Given as goal

abbrev pub invariant-loop-file : goal.invariant-loop-file
invariant-loop-file l = l.kept.items ++ files_bytes (map (λ (f : File). f.bytes) (files_of (drop l.file-index l.files))) ≡ files_bytes (map (λ (f : File). f.bytes) (files_of l.files))

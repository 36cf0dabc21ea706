use Rattle.std.proofs.Common.{◌≡◌, drop}
use Rattle.press_cluster.specs.Digests.{behind_files}
use Rattle.press_program.proofs.Named.{bytes_of}
use Rattle.press_program.proofs.hosting.behind_kits.Given as goal

abbrev pub invariant-loop-file : goal.invariant-loop-file
invariant-loop-file l = behind_files l.digest (bytes_of (drop l.file-index l.files)) ≡ behind_files l.fn.digest (bytes_of l.files)

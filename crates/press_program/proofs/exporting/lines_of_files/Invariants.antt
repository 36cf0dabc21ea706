use Rattle.std.proofs.Common.{◌≡◌, ◌++◌, drop, string_bytes}
use Rattle.press_program.specs.Exports.{lines_from}
use Rattle.press_program.proofs.exporting.lines_of_files.Given as goal

abbrev pub invariant-loop-place : goal.invariant-loop-place
invariant-loop-place l = string_bytes l.text ++ lines_from l.file l.place (drop l.place l.files) ≡ lines_from l.file 0 l.files

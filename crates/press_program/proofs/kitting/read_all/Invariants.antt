use Rattle.std.proofs.Common.{◌≡◌, ◌++◌, drop}
use Rattle.press_program.proofs.Named.{names_of, texts}
use Rattle.press_program.proofs.kitting.read_all.Given as goal

abbrev pub invariant-loop-i : goal.invariant-loop-i
invariant-loop-i g l = names_of l.files.items ++ texts (drop l.i l.names) ≡ texts l.names

use Rattle.std.proofs.Common.{◌≡◌, ◌++◌, drop, string_bytes}
use Rattle.press_program.specs.Nexts.{task_lines}
use Rattle.press_program.proofs.nexting.task_lines.Given as goal

abbrev pub invariant-loop-place : goal.invariant-loop-place
invariant-loop-place l = string_bytes l.text ++ task_lines l.task (drop l.place l.names) ≡ task_lines l.task l.names

use Rattle.std.proofs.Common.{◌≡◌, ◌++◌, drop, string_bytes}
use Rattle.press_client.specs.Reporting.{lines_from}
use Rattle.press_client.proofs.reporting.lines_of_endings.Given as goal

abbrev pub invariant-loop-place : goal.invariant-loop-place
invariant-loop-place l = string_bytes l.text ++ lines_from l.place (drop l.place l.commands) (drop l.place l.endings) ≡ lines_from 0 l.commands l.endings

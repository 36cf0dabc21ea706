use Rattle.std.proofs.Common.{◌≡◌, drop, true}
use Rattle.press_server.specs.Files.{behind_name}
use Rattle.press_server.proofs.files.behind_name.Given as goal

-- what was passed holds no such line
abbrev pub invariant-loop-place : goal.invariant-loop-place
invariant-loop-place l = behind_name l.name l.begins (drop l.place l.text) ≡ behind_name l.name true l.text

use Rattle.std.proofs.Common.{◌≡◌, drop}
use Rattle.std.specs.Prelude.{None}
use Rattle.press_server.specs.Files.{number_from}
use Rattle.press_server.proofs.files.number_in.Given as goal

abbrev pub invariant-loop-byte : goal.invariant-loop-byte
invariant-loop-byte l = number_from l.found (drop l.byte-index l.text) ≡ number_from None l.text

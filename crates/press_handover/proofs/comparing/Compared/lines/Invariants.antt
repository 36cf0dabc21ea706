use Rattle.std.proofs.Common.{◌≡◌, ◌++◌, drop, string_bytes}
use Rattle.press_handover.specs.Handovers.{otherwise_lines}
use Rattle.press_handover.proofs.comparing.Compared.lines.Given as goal

abbrev pub invariant-loop-one : goal.invariant-loop-one
invariant-loop-one l = string_bytes l.text ++ otherwise_lines (drop l.one-index l.self.first.items) ≡ otherwise_lines l.self.first.items

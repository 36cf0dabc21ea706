use Rattle.std.proofs.Common.{◌≡◌, drop}
use Rattle.press_net.specs.Heads.{lines_after}
use Rattle.press_net.proofs.request_buffer.Line.after_all.Given as goal

abbrev pub invariant-loop-byte : goal.invariant-loop-byte
invariant-loop-byte l = lines_after l.line (drop l.byte-index l.piece) ≡ lines_after l.fn.self l.piece

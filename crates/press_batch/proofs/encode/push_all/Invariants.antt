use Rattle.std.proofs.Common.{drop}
use Rattle.press_batch.proofs.Pushing.{Puts}
use Rattle.press_batch.proofs.encode.push_all.Given as goal

abbrev pub invariant-loop-message : goal.invariant-loop-message
invariant-loop-message l = Puts l.writer.bytes l.fn.writer.bytes (drop l.message-index l.messages) l.messages

use Rattle.std.proofs.Common.{length}
use Rattle.press_batch.proofs.Found.{Left}
use Rattle.press_batch.proofs.reader.Reader.messages.Given as goal

abbrev pub invariant-loop-alloc : goal.invariant-loop-alloc
invariant-loop-alloc l = Left l.self l.messages.items l.fn.self

abbrev pub decreases-loop-alloc : goal.decreases-loop-alloc
decreases-loop-alloc l = length l.self

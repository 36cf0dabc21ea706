use Rattle.std.proofs.Common.{arith}
use Rattle.press_batch.proofs.pieces.hold_bytes.Goals as goal

pub returns : goal.returns
returns c = λ i. omega (arith, c.type_inv.bytes i)

use Rattle.std.proofs.Common.{arith}
use Rattle.press_wire.proofs.MessageLaws.{is_given}
use Rattle.press_wire.proofs.decode.decode_msg.Goals as goal

pub returns-clause-spelled : goal.returns-clause-spelled
returns-clause-spelled c = is_given c.args.bytes.now c.whole_message.result (λ i. omega (arith, c.type_inv.bytes i)) c.whole_message.ensures.read

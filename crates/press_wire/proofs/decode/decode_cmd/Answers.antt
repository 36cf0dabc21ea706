use Rattle.std.proofs.Common.{arith}
use Rattle.press_wire.proofs.ValueLaws.{is_given}
use Rattle.press_wire.proofs.decode.decode_cmd.Goals as goal

pub returns-clause-spelled : goal.returns-clause-spelled
returns-clause-spelled c = is_given c.args.bytes.now c.short_value.result (λ i. omega (arith, c.type_inv.bytes i)) c.short_value.ensures.read

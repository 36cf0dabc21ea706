use Rattle.std.proofs.Common.{◌≡◌, Ok, arith}
use Rattle.press_batch.specs.Carried.{carried_by}
use Rattle.press_batch.specs.Reading.{head_at}
use Rattle.press_batch.proofs.Taken.{batch_taken}
use Rattle.press_batch.proofs.decode.short_batch.Goals as goal

pub returns-clause-spelled : goal.returns-clause-spelled
returns-clause-spelled c =
    let new = c.new-reader.ensures in
    let was = c.in_ok-head.ensures.read in
    let read : head_at c.args.bytes.now ≡ Ok (c.in_ok-head.head, c.head.new.self) = cc in
    batch_taken c.args.bytes.now c.head.new.self (carried_by (record { head = c.in_ok-head.head; messages = c.in_ok-messages.messages })) (λ i. omega (arith, c.type_inv.bytes i)) read c.in_ok-messages.ensures.read

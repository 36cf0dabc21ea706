use Rattle.std.proofs.Common.{◌≡◌, length, nat_eq, true, Ok, arith}
use Rattle.press_batch.specs.Reading.{head_at}
use Rattle.press_batch.proofs.Taken.{head_taken}
use Rattle.press_batch.proofs.decode.decode_head.Goals as goal

pub returns-clause-spelled : goal.returns-clause-spelled
returns-clause-spelled c =
    let new = c.new-reader.ensures in
    let was = c.in_ok-head.ensures.read in
    let read : head_at c.args.bytes.now ≡ Ok (c.in_ok-head.head, c.head.new.self) = cc in
    let over : nat_eq (length c.head.new.self) 0 ≡ true = cc in
    head_taken c.args.bytes.now c.head.new.self c.in_ok-head.head (λ i. omega (arith, c.type_inv.bytes i)) read over

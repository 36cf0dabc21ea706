use Rattle.std.proofs.Common.{◌≡◌, ◌+◌, length, arith}
use Rattle.press_batch.proofs.Lengths.{length_put}
use Rattle.press_batch.proofs.batch_writer.BatchWriter.push.Goals as goal

pub invariant_of-self-2 : goal.invariant_of-self-2
invariant_of-self-2 c =
    let long : length c.put_piece.new.bytes.items ≡ length c.self.inside.bytes.items + (4 + length c.deref.result.now) = length_put c.self.inside.bytes.items c.put_piece.new.bytes.items c.deref.result.now c.in_ok-put_piece.ensures.put in (
      omega (arith, long, c.self.invariant.0),
      omega (arith, long, c.self.invariant.1, c.deref.ensures.len, c.len.ensures, c.len-room.ensures, c.if-room-lt4.false, c.if-room-len.false),
    )

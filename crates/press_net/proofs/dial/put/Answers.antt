use Rattle.std.proofs.Common.{◌+◌, ◌++◌, length, take, arith}
use borrow.Rule.Slice.PartMut.{Post-is}
use Rattle.mio.specs.SockAddr.{put}
use Rattle.press_net.proofs.dial.put.Goals as goal

pub returns : goal.returns
unfolding put
returns c =
    let at = c.args.at in
    let raw = c.args.raw.now in
    let after = Post-is at (at + length c.args.bytes.now) raw (omega arith) in
    λ i. take at raw ++ (c.copy_from_slice.ensures.after i ++ after i)

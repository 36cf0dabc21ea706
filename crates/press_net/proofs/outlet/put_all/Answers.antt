use Rattle.std.proofs.Common.{arith, length, ◌≤◌, ◌-◌, length-take, drop}
use Rattle.press_text.proofs.Taken.{Appends-more}
use Rattle.press_net.proofs.outlet.put_all.Goals as goal

pub loop-done-preserved : goal.loop-done-preserved
loop-done-preserved g c =
    let k = length c.args.bytes.now - c.loop-done.done in
    let fits : c.in-Ok.n ≤ k = omega (arith, c.in-Ok.ensures.bound, length-take k (drop c.loop-done.done c.args.bytes.now)) in
    record {
      wrote = Appends-more _ _ _ c.args.bytes.now c.loop-done.done c.in-Ok.n k c.loop-done.invariant.within fits c.loop-done.invariant.wrote c.in-Ok.ensures.bytes;
      within = omega arith;
    }

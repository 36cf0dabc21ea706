use Rattle.std.proofs.Common.{arith, ◌++◌, length-append}
use Rattle.press_text.proofs.Taken.{Consumes-trans}
use Rattle.press_text.proofs.streams.read_limited.Goals as goal

pub returns-in_err-read_some-clause-took : goal.returns-in_err-read_some-clause-took
returns-in_err-read_some-clause-took g c =
    let t = c.in_err-read_some.ensures.took in
    (c.loop-out.out.items ++ t.0, Consumes-trans _ _ _ c.loop-out.out.items t.0 c.loop-out.invariant.took t.1, omega (arith, t.2, c.loop-out.invariant.room, length-append c.loop-out.out.items t.0))

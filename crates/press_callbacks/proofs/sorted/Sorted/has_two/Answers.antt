use Rattle.std.proofs.Common.{◌≡◌, ◌∙◌, ◌+◌, ◌-◌, ◌<◌, ◌≤◌, sym, bytes_eq, false, drop, length, arith, length-drop}
use Rattle.press_callbacks.proofs.Ordered.{next_apart, two_alone}
use Rattle.press_callbacks.proofs.sorted.Sorted.has_two.Goals as goal

pub loop-i-preserved : goal.loop-i-preserved
loop-i-preserved g c =
    let back : c.loop-i.i + 1 - 1 ≡ c.loop-i.i - 1 + 1 = omega (arith, c.loop-i.auto.i) in
    let here : c.loop-i.i ≡ c.loop-i.i - 1 + 1 = omega (arith, c.loop-i.auto.i) in
    let within : c.loop-i.i - 1 + 1 < length c.args.self.now.items.now = omega (arith, c.loop-i-test.true, c.loop-i.auto.i) in
    let apart : bytes_eq (g.T.Named.name c.index-items-i.result) (g.T.Named.name c.index-items-i-in-loop-i.result) ≡ false = cc in
    rw back
    (next_apart g.T.Named.name c.args.self.now.items.now (c.loop-i.i - 1) c.index-items-i-in-loop-i.result c.index-items-i.result c.args.self.now.sorted within
    c.index-items-i-in-loop-i.is (rw (← here) c.index-items-i.is) apart
    ∙ c.loop-i.invariant)

pub returns : goal.returns
returns g c =
    let few : length (drop (c.loop-i.i - 1) c.args.self.now.items.now) ≤ 1 = rw length-drop (omega (arith, c.loop-i-test.false)) in
    sym (two_alone g.T.Named.name (drop (c.loop-i.i - 1) c.args.self.now.items.now) few) ∙ c.loop-i.invariant

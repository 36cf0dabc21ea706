use Rattle.std.proofs.Common.{arith, ◌+◌, ◌<◌, length}
use Rattle.press_scan.specs.Places.{At}
use Rattle.press_scan.specs.Shortcodes.{IsClosing}
use Rattle.press_scan.proofs.Firsts.{none_to, at_within}
use Rattle.press_scan.proofs.find.find_closing.Goals as goal

pub returns-then-is_closing : goal.returns-then-is_closing
returns-then-is_closing c =
    let text = c.args.text.now in
    let closing : IsClosing text c.args.name.now c.in-Some.place = c.is_closing.ensures.0 c.if-is_closing.true in
    let within : c.in-Some.place + 2 + length c.args.name.now < length text = at_within text 93 (c.in-Some.place + 2 + length c.args.name.now) (omega arith) closing.end in (
      record {
        after = omega (arith, c.loop-place.invariant.0, c.in-Some.ensures.after);
        holds = closing;
        none_before = none_to (IsClosing text c.args.name.now) (At text 91) c.args.from c.loop-place.at c.in-Some.place (λ k here. here.bracket) c.loop-place.invariant.1 c.in-Some.ensures.none_before;
      },
      omega arith,
    )

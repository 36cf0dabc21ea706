use Rattle.std.proofs.Common.{arith}
use Rattle.press_scan.specs.Tags.{names_of}
use Rattle.press_scan.specs.Places.{At}
use Rattle.press_scan.specs.Shortcodes.{HasShortcode}
use Rattle.press_scan.proofs.Firsts.{at_within, none_ahead, none_more, none_to}
use Rattle.press_scan.proofs.Heads.{has_bracket, no_bracket, no_more, no_head_here}
use Rattle.press_scan.proofs.next.next_opening.Goals as goal

pub returns-in-Some-find_byte-clause-some : goal.returns-in-Some-find_byte-clause-some
returns-in-Some-find_byte-clause-some c =
    let text = c.args.text.now in
    let tags = names_of c.args.tags.now in (
      record {
        after = omega (arith, c.loop-place.invariant.0, c.in-Some.ensures.after);
        stands = c.in-Some-head_at.ensures.0;
        closes = c.in-Some-find_byte.ensures;
        none_before = none_to (HasShortcode text tags) (At text 91) c.args.from c.loop-place.at c.in-Some.place (has_bracket text tags) c.loop-place.invariant.1 c.in-Some.ensures.none_before;
      },
      c.in-Some-head_at.ensures.1,
      at_within text 93 c.in-Some-find_byte.close (omega arith) c.in-Some-find_byte.ensures.holds,
    )

pub returns-in-None-clause-none : goal.returns-in-None-clause-none
returns-in-None-clause-none c =
    let text = c.args.text.now in
    let tags = names_of c.args.tags.now in
    no_more text tags c.args.from c.in-Some.place (no_bracket text tags c.in-Some.place c.in-Some-head_at.head.lead c.in-Some-head_at.head.tag c.in-Some-head_at.ensures.0 c.in-None.ensures)
    (none_to (HasShortcode text tags) (At text 91) c.args.from c.loop-place.at c.in-Some.place (has_bracket text tags) c.loop-place.invariant.1 c.in-Some.ensures.none_before)

pub loop-place-preserved : goal.loop-place-preserved
loop-place-preserved c =
    let text = c.args.text.now in
    let tags = names_of c.args.tags.now in (
      omega (arith, c.loop-place.invariant.0, c.in-Some.ensures.after),
      none_more (HasShortcode text tags) c.args.from c.in-Some.place
          (none_to (HasShortcode text tags) (At text 91) c.args.from c.loop-place.at c.in-Some.place (has_bracket text tags) c.loop-place.invariant.1 c.in-Some.ensures.none_before)
          (no_head_here text tags c.in-Some.place c.in_default-head_at.ensures),
    )

pub returns-clause-none : goal.returns-clause-none
returns-clause-none c =
    let text = c.args.text.now in
    let tags = names_of c.args.tags.now in
    none_ahead (HasShortcode text tags) (At text 91) c.args.from c.loop-place.at (has_bracket text tags) c.loop-place.invariant.1 c.in_default.ensures

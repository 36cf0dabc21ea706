use Rattle.std.proofs.Common.{◌≡◌, ◌+◌, sym, subst, inr, rules, refl}
use Rattle.press_scan.specs.Places.{At, IsFirst, NoneFrom}
use Rattle.press_scan.specs.Shortcodes.{IsClosing, cut}
use Rattle.press_scan.specs.declared.span.Span.{Span}
use Rattle.press_scan.proofs.next.lone_shortcode.Goals as goal

pub returns : goal.returns
returns c =
    let s = c.with_tail.result in
    let made = c.with_tail.ensures in
    let tag : s.tag ≡ c.args.opening.head.tag = made.same.2 in
    record {
      starts = made.same.0;
      lead = made.same.1;
      tag = tag;
      rest = record {
        close = c.args.opening.close;
        closes = subst (λ (t : Span). IsFirst (At c.args.text.now 93) t.end c.args.opening.close) (sym tag) c.requires.closes;
        atts = search rules;
        after = c.args.opening.close + 1;
        form = inr (inr (record {
          no_slash = c.requires.no_slash;
          atts = made.atts.1;
          no_closing = subst (λ (t : Span). NoneFrom (IsClosing c.args.text.now (cut c.args.text.now t)) (c.args.opening.close + 1)) (sym tag) c.requires.no_closing;
          content = made.same.3;
          ends = refl;
        }));
        tail = made.tail;
        no_tail = made.no_tail;
        ends = made.ends;
      };
    }

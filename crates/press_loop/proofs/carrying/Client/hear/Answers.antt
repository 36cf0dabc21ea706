use Rattle.std.proofs.Common.{◌≤◌, ◌++◌, drop, length, take, ap, sym, ◌∙◌, List, ℕ}
use Rattle.std.proofs.lemmas.List.{take-append-le}
use Rattle.press_text.proofs.Taken.{Consumes-trans}
use Rattle.press_loop.specs.Carrying.{with_more}
use Rattle.press_loop.proofs.Heard.{more_of_both, still_whole}
use Rattle.press_loop.proofs.carrying.Client.hear.Goals as goal

pub returns-in_default-clause-hears : goal.returns-in_default-clause-hears
returns-in_default-clause-hears g c =
    let heard = c.loop-left.invariant.heard in
    let came = c.in_ok-came.came in
    let bytes = take came c.read.new.buf in
    let most : came ≤ length c.read.new.buf = c.in_ok-came.ensures.bound.0 in
    let kept = c.keep.ensures ∙ ap (with_more c.loop-left.self.front) (take-append-le came c.read.new.buf (drop c.min-room.result c.loop-left.piece) most) in (
      heard.0 ++ bytes,
      Consumes-trans _ _ _ heard.0 bytes heard.1 c.in_ok-came.ensures.bytes.0,
      kept ∙ ap (λ f. with_more f bytes) heard.2 ∙ more_of_both c.args.self.now.front heard.0 bytes,
      tt,
    )

pub loop-left-preserved : goal.loop-left-preserved
loop-left-preserved g c =
    let heard = c.loop-left.invariant.heard in
    let came = c.in_ok-came.came in
    let bytes = take came c.read.new.buf in
    let most : came ≤ length c.read.new.buf = c.in_ok-came.ensures.bound.0 in
    let part = take-append-le came c.read.new.buf (drop c.min-room.result c.loop-left.piece) most in
    let kept = c.keep.ensures ∙ ap (with_more c.loop-left.self.front) part in
    let more = ap (λ (xs : List ℕ). xs ++ c.in-Some.rest.now) (sym part) ∙ c.in-Some.ensures in
    record {
      heard = (
        heard.0 ++ bytes,
        Consumes-trans _ _ _ heard.0 bytes heard.1 c.in_ok-came.ensures.bytes.0,
        kept ∙ ap (λ f. with_more f bytes) heard.2 ∙ more_of_both c.args.self.now.front heard.0 bytes,
        still_whole heard.0 bytes c.loop-left.left.now c.in-Some.rest.now c.args.written.now heard.3 more,
      );
      request = c.loop-left.invariant.request;
    }

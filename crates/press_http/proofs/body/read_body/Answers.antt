use Rattle.std.proofs.Common.{◌≡◌, ℕ, ◌+◌, ◌<◌, List, ◌∷◌, ◌++◌, length, ap, ◌∙◌, arith, append_assoc, length-append, inr}
use Rattle.std.proofs.lemmas.Result.{err_from_is_err_and}
use Rattle.press_text.proofs.Taken.{Consumes-trans}
use Rattle.press_http.specs.Reads.{bytes_of_read, seen_by}
use Rattle.press_http.proofs.BodyReads.{missed_body}
use Rattle.press_http.proofs.Joined.{ended, goes_on}
use Rattle.press_http.proofs.body.read_body.Goals as goal

pub returns-in_err-read_some : goal.returns-in_err-read_some
returns-in_err-read_some g c =
    let i = c.loop-body.invariant in
    let t = c.in_err-read_some.ensures in
    let p = err_from_is_err_and c.from_residual.result c.from_residual.ensures.1 in
    let short : length c.args.rest + length (seen_by i.0) < c.args.count = omega (arith, c.loop-body-test.true, ap length i.5, length-append c.args.rest (seen_by i.0)) in (
      t.0 ∷ i.0,
      (_, i.1, i.2, short, t.1),
      Consumes-trans _ _ _ (seen_by i.0) (bytes_of_read t.0) i.3 t.2,
      omega (arith, t.3, ap length i.5, length-append c.args.rest (seen_by i.0), length-append (seen_by i.0) (bytes_of_read t.0)),
      rw (p.1, p.2) (missed_body _ c.args.count c.args.rest i.0 t.0 _ short t.4),
    )

pub returns-then-branch-eq0 : goal.returns-then-branch-eq0
returns-then-branch-eq0 g c =
    let i = c.loop-body.invariant in
    let t = c.in_ok-read_some.ensures in
    let none : length (bytes_of_read t.0) ≡ 0 = omega (arith, t.4.1, c.if-branch-eq0.true) in
    let short : length c.args.rest + length (seen_by i.0) < c.args.count = omega (arith, c.loop-body-test.true, ap length i.5, length-append c.args.rest (seen_by i.0)) in (
      t.0 ∷ i.0,
      (_, i.1, i.2, short, t.1),
      Consumes-trans _ _ _ (seen_by i.0) (bytes_of_read t.0) i.3 t.2,
      omega (arith, none, short, length-append (seen_by i.0) (bytes_of_read t.0)),
      ((omega (arith, none, short, length-append (seen_by i.0) (bytes_of_read t.0)), t.4.3 c.if-branch-eq0.true), ended t.0 i.0 t.4.0 none),
    )

pub loop-body-preserved : goal.loop-body-preserved
loop-body-preserved g c =
    let i = c.loop-body.invariant in
    let t = c.in_ok-read_some.ensures in
    let some : 0 < length (bytes_of_read t.0) = omega (arith, t.4.1, c.if-branch-eq0.false) in
    let short : length c.args.rest + length (seen_by i.0) < c.args.count = omega (arith, c.loop-body-test.true, ap length i.5, length-append c.args.rest (seen_by i.0)) in (
      t.0 ∷ i.0,
      (_, i.1, i.2, short, t.1),
      goes_on t.0 i.0 t.4.0 some,
      Consumes-trans _ _ _ (seen_by i.0) (bytes_of_read t.0) i.3 t.2,
      omega (arith, t.3, ap length i.5, length-append c.args.rest (seen_by i.0), length-append (seen_by i.0) (bytes_of_read t.0)),
      t.4.2 ∙ ap (λ (l : List ℕ). l ++ bytes_of_read t.0) i.5 ∙ append_assoc c.args.rest (seen_by i.0) (bytes_of_read t.0),
      inr (omega (arith, t.3, ap length t.4.2, length-append c.loop-body.body.items (bytes_of_read t.0))),
    )

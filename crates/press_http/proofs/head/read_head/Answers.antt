use Rattle.std.proofs.Common.{rules, ◌≡◌, ◌<◌, ℕ, List, arith, ◌∷◌, ◌++◌, length, length-append, subst, ap, sym, ◌∙◌}
use Rattle.press_http.specs.Heads.{IsUnfinished, WantsHead}
use Rattle.press_http.specs.Reads.{bytes_of_read, seen_by}
use Rattle.std.proofs.lemmas.Result.{err_from_is_err_and}
use Rattle.press_text.proofs.Taken.{Consumes-trans}
use Rattle.press_http.proofs.HeadReads.{looked_none, missed, same_seen}
use Rattle.press_http.proofs.Joined.{ended, goes_on}
use Rattle.press_http.proofs.head.read_head.Goals as goal

pub returns-in_err-read_some : goal.returns-in_err-read_some
returns-in_err-read_some g c =
    let i = c.loop-buf.invariant in
    let t = c.in_err-read_some.ensures in
    let none = looked_none _ _ _ c.in_ok-spans.ensures c.in_default.not-Some in
    let wants : WantsHead (seen_by i.0) =
    (subst (λ (seen : List ℕ). IsUnfinished seen) (c.deref.ensures.value ∙ i.4) none, omega (arith, c.loop-buf-test.true, ap length i.4))
    in
    let p = err_from_is_err_and c.from_residual-in_err-read_some.result c.from_residual-in_err-read_some.ensures.1 in (
      t.0 ∷ i.0,
      (_, i.1, i.2, wants, t.1),
      Consumes-trans _ _ _ (seen_by i.0) (bytes_of_read t.0) i.3 t.2,
      omega (arith, t.3, i.5, ap length i.4, length-append (seen_by i.0) (bytes_of_read t.0)),
      rw (p.1, p.2) (missed _ i.0 t.0 _ wants t.4),
    )

pub returns-then-branch-eq0 : goal.returns-then-branch-eq0
returns-then-branch-eq0 g c =
    let i = c.loop-buf.invariant in
    let t = c.in_ok-read_some.ensures in
    let none = looked_none _ _ _ c.in_ok-spans.ensures c.in_default.not-Some in
    let wants : WantsHead (seen_by i.0) =
    (subst (λ (seen : List ℕ). IsUnfinished seen) (c.deref.ensures.value ∙ i.4) none, omega (arith, c.loop-buf-test.true, ap length i.4))
    in
    let nothing : length (bytes_of_read t.0) ≡ 0 = omega (arith, t.4.1, c.if-branch-eq0.true) in
    let same : seen_by (t.0 ∷ i.0) ≡ seen_by i.0 = same_seen (seen_by i.0) (bytes_of_read t.0) nothing in (
      t.0 ∷ i.0,
      (_, i.1, i.2, wants, t.1),
      Consumes-trans _ _ _ (seen_by i.0) (bytes_of_read t.0) i.3 t.2,
      omega (arith, t.3, i.5, ap length i.4, length-append (seen_by i.0) (bytes_of_read t.0)),
      (((subst (λ (seen : List ℕ). WantsHead seen) (sym same) wants).0, (subst (λ (seen : List ℕ). WantsHead seen) (sym same) wants).1, t.4.3 c.if-branch-eq0.true), ended t.0 i.0 t.4.0 nothing),
    )

pub loop-buf-preserved : goal.loop-buf-preserved
loop-buf-preserved g c =
    let i = c.loop-buf.invariant in
    let t = c.in_ok-read_some.ensures in
    let none = looked_none _ _ _ c.in_ok-spans.ensures c.in_default.not-Some in
    let wants : WantsHead (seen_by i.0) =
    (subst (λ (seen : List ℕ). IsUnfinished seen) (c.deref.ensures.value ∙ i.4) none, omega (arith, c.loop-buf-test.true, ap length i.4))
    in
    let some : 0 < length (bytes_of_read t.0) = omega (arith, t.4.1, c.if-branch-eq0.false) in (
      t.0 ∷ i.0,
      (_, i.1, i.2, wants, t.1),
      goes_on t.0 i.0 t.4.0 some,
      Consumes-trans _ _ _ (seen_by i.0) (bytes_of_read t.0) i.3 t.2,
      t.4.2 ∙ ap (λ (l : List ℕ). l ++ bytes_of_read t.0) i.4,
      omega (arith, t.3, i.5, ap length t.4.2, length-append c.loop-buf.buf.items (bytes_of_read t.0)),
      search rules,
    )

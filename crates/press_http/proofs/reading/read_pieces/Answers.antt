use Rattle.std.proofs.Common.{ℕ, List, ◌++◌, inl, inr, refl, arith}
use Rattle.std.proofs.lemmas.Result.{err_from_is_err_and}
use Rattle.press_text.proofs.Taken.{Consumes-trans}
use Rattle.press_http.specs.Bodies.{WantsBody}
use Rattle.press_http.specs.Heads.{WantsHead}
use Rattle.press_http.specs.Reads.{seen_by}
use Rattle.press_http.specs.Requests.{WantsMore}
use Rattle.press_http.proofs.Joined.{ends_join, join, seen_join, widen}
use Rattle.press_http.proofs.Whole.{cut, fits, refused, whole}
use Rattle.press_http.proofs.reading.read_pieces.Goals as goal

pub returns-in_err-body : goal.returns-in_err-body
returns-in_err-body g c =
    let t = c.in_ok-method.ensures in
    let b = c.in_err-body.ensures in
    let s = c.in_ok-method.field-0 in
    let start = t.4.0 in
    let reads = join g.R.Pieces.gives WantsHead WantsMore (WantsBody s.count s.rest) t.0 t.4.1 (λ (seen : List ℕ) wants. inl wants)
    (λ (more : List ℕ) short. inr (cut (seen_by t.0) more s start short)) b.0 _ _ _ t.1 b.1
    in
    let p = err_from_is_err_and c.from_residual-in_err-body.result c.from_residual-in_err-body.ensures.1 in (
      b.0 ++ t.0,
      reads,
      rw (seen_join b.0 t.0) (Consumes-trans _ _ _ (seen_by t.0) (seen_by b.0) t.2 b.2),
      rw (seen_join b.0 t.0) (fits (seen_by t.0) (seen_by b.0) s start t.3 b.3),
      rw (p.1, p.2, seen_join b.0 t.0) (refused _ (seen_by t.0) (seen_by b.0) s _ start b.4.0, ends_join _ b.0 t.0 b.4.1),
    )

pub returns : goal.returns
returns g c =
    let t = c.in_ok-method.ensures in
    let b = c.in_ok-body.ensures in
    let s = c.in_ok-method.field-0 in
    let start = t.4.0 in
    let reads = join g.R.Pieces.gives WantsHead WantsMore (WantsBody s.count s.rest) t.0 t.4.1 (λ (seen : List ℕ) wants. inl wants)
    (λ (more : List ℕ) short. inr (cut (seen_by t.0) more s start short)) b.0 _ _ _ t.1 b.1
    in (
      b.0 ++ t.0,
      reads,
      rw (seen_join b.0 t.0) (Consumes-trans _ _ _ (seen_by t.0) (seen_by b.0) t.2 b.2),
      rw (seen_join b.0 t.0) (fits (seen_by t.0) (seen_by b.0) s start t.3 b.3),
      rw (seen_join b.0 t.0)
          (whole (seen_by t.0) (seen_by b.0) s (record { method = s.method; target = s.target; body = c.in_ok-body.body }) start t.3 b.3 b.4.0 refl refl b.4.1),
    )

pub returns-in_err-method : goal.returns-in_err-method
returns-in_err-method g c =
    let t = c.in_err-method.ensures in
    let p = err_from_is_err_and c.from_residual.result c.from_residual.ensures.1 in (
      t.0,
      widen g.R.Pieces.gives WantsHead WantsMore (λ (seen : List ℕ) wants. inl wants) t.0 _ _ t.1,
      t.2,
      omega (arith, t.3),
      rw (p.1, p.2) t.4,
    )

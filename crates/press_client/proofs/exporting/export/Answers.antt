use Rattle.std.proofs.Common.{inl, inr, refl, arith}
use Rattle.std.proofs.lemmas.Result.{err_from_is_err_and}
use Rattle.press_client.proofs.Exports.{ended, first_is, goes_on, holds_nothing, is_unanswered}
use Rattle.press_client.specs.Exporting.{writing_of}
use Rattle.press_client.proofs.exporting.export.Goals as goal

pub loop-left-init : goal.loop-left-init
loop-left-init g c = (
  first_is g.T.Teller.tells c.args.limits c.in_ok-files.files.limits c.put_first.new.files.limits c.in_ok-left.left c.in_ok-applied.field-0 _ _
      (writing_of c.in_ok-files.files) (writing_of c.put_first.new.files) c.in_ok-applied.ensures c.in_ok-files.ensures.limits c.put_first.ensures.limits
      c.in_ok-left.ensures.left c.in_ok-files.ensures.begun c.in_ok-left.ensures.put,
  omega (arith, c.in_ok-left.ensures.left),
)

pub loop-left-preserved : goal.loop-left-preserved
loop-left-preserved g c = (
  goes_on g.T.Teller.tells c.args.limits c.loop-left.files.limits c.put_first-in-loop-left.new.files.limits c.in_ok-applied.field-0.applied c.loop-left.left
      c.in_ok-next.next _ _ _ (writing_of c.loop-left.files) (writing_of c.put_first-in-loop-left.new.files) c.in_ok-entries.field-0 c.loop-left-test.true
      c.loop-left.invariant.0 c.in_ok-entries.ensures c.put_first-in-loop-left.ensures.limits c.in_ok-next.ensures.left c.in_ok-next.ensures.put,
  omega (arith, c.in_ok-next.ensures.left, c.loop-left.invariant.1),
)

pub returns-clause-files : goal.returns-clause-files
returns-clause-files g c =
    ended g.T.Teller.tells c.args.limits c.loop-left.files.limits _ c.loop-left.left _ _ (writing_of c.loop-left.files) c.in_ok-into_files.field-0.items
    (omega (arith, c.loop-left-test.false)) c.loop-left.invariant.0 c.in_ok-into_files.ensures

pub returns-in_err-entries-clause-stops : goal.returns-in_err-entries-clause-stops
returns-in_err-entries-clause-stops g c =
    let p = err_from_is_err_and c.from_residual-in_err-entries.result c.from_residual-in_err-entries.ensures.1 in
    let is = is_unanswered g.T.Teller.tells _ _ _ _ _ _ _ _ _ c.loop-left-test.true c.loop-left.invariant.0 c.in_err-entries.ensures in
    rw (p.1, p.2) (inr (inl is))

pub returns-then-next-left-clause-stops : goal.returns-then-next-left-clause-stops
returns-then-next-left-clause-stops g c =
    let is = holds_nothing g.T.Teller.tells _ _ _ _ _ _ _ _ _ c.in_ok-entries.field-0 c.loop-left-test.true c.loop-left.invariant.0 c.in_ok-entries.ensures
    c.in_ok-next.ensures.left c.if-next-left.true in
    inr (inr (refl, is))

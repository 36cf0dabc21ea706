use Rattle.std.proofs.Common.{subst}
use Rattle.press_store.specs.Adopted.{IsOld, IsOurs}
use Rattle.press_store.specs.Adopting.{IsNothing}
use Rattle.press_store.proofs.Adopting.{back_unlimited, on_err}
use Rattle.press_store.proofs.adopt.prepare.Goals as goal

pub returns-in_err-prepare_ours-clause-back : goal.returns-in_err-prepare_ours-clause-back
returns-in_err-prepare_ours-clause-back g c =
    let mid = c.set_step_limit.new.self in
    let ours : IsOurs mid.schema = subst IsOurs c.schema-2.ensures.value (c.is_ours.ensures.tells c.if-is_ours.true) in
    on_err c.from_residual.result (λ clean _. back_unlimited g.D.Store c.args.conn.now mid c.prepare_ours.new.conn c.set_step_limit.ensures (c.in_err-prepare_ours.ensures.back clean ours))

pub returns-in_err-prepare_empty-clause-back : goal.returns-in_err-prepare_empty-clause-back
returns-in_err-prepare_empty-clause-back g c =
    let mid = c.set_step_limit.new.self in
    let empty : IsNothing mid.schema = subst IsNothing c.schema-3.ensures.value (c.is_empty.ensures.tells c.if-is_empty.true) in
    on_err c.from_residual-in_err-prepare_empty.result (λ clean _. back_unlimited g.D.Store c.args.conn.now mid c.prepare_empty.new.conn c.set_step_limit.ensures (c.in_err-prepare_empty.ensures.back clean empty))

pub returns-in_err-prepare_old-clause-back : goal.returns-in_err-prepare_old-clause-back
returns-in_err-prepare_old-clause-back g c =
    let mid = c.set_step_limit.new.self in
    let old : IsOld mid.schema = subst IsOld c.schema-4.ensures.value (c.is_old.ensures.tells c.if-is_old.true) in
    on_err c.from_residual-in_err-prepare_old.result (λ clean _. back_unlimited g.D.Store c.args.conn.now mid c.prepare_old.new.conn c.set_step_limit.ensures (c.in_err-prepare_old.ensures.back clean old))

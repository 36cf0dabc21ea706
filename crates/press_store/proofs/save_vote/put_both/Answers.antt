use Rattle.std.proofs.Common.{◌∙◌, Ok, Err, Result, subst, arith}
use Rattle.std.specs.Prelude.{OnOk}
use Rattle.sqlite.specs.State.{HasCleanDisk}
use Rattle.sqlite.specs.Held.{state}
use Rattle.press_store.specs.Saving.{PutsPromise}
use Rattle.press_store.specs.Stands.{store_in}
use Rattle.press_store.proofs.Puts.{both_done}
use Rattle.press_store.proofs.save_vote.put_both.Goals as goal

on_ok : {T E : Type 0} {P Q : Type 0} (result : Result T E) → (P → Q) → OnOk result P → OnOk result Q
on_ok (Ok x) so h = so h
on_ok (Err e) so h = tt

pub returns-clause-turns : goal.returns-clause-turns
returns-clause-turns g c clean inside l has =
    let a = store_in (state g.S.Store c.args.tx.now.conn.now).now.trees in
    let b = store_in (state g.S.Store c.raise_promise.new.tx.conn.now).now.trees in
    let d = store_in (state g.S.Store c.add_vote.new.tx.conn.now).now.trees in
    let vote = c.args.vote.now in
    let was : HasCleanDisk (state g.S.Store c.raise_promise.new.tx.conn.now) = omega (arith, c.add_vote.ensures.survives.clean, clean) in
    let one = c.in_ok-raise_promise.ensures.turns was inside l has in
    let promised = subst (λ first. PutsPromise first vote.ballot a b) c.first.ensures.block one.1 in
    on_ok c.add_vote.result (λ two. (two.0, both_done c.args.slot vote a b d promised two.1)) (c.add_vote.ensures.turns clean (c.in_ok-raise_promise.ensures.goes_on was inside) l one.0)

pub returns-clause-spares : goal.returns-clause-spares
returns-clause-spares g c clean inside l has =
    let was : HasCleanDisk (state g.S.Store c.raise_promise.new.tx.conn.now) = omega (arith, c.add_vote.ensures.survives.clean, clean) in
    let one = c.in_ok-raise_promise.ensures.turns was inside l has in
    let same = c.in_ok-raise_promise.ensures.spares was inside l has in
    on_ok c.add_vote.result (λ two. two ∙ same) (c.add_vote.ensures.spares clean (c.in_ok-raise_promise.ensures.goes_on was inside) l one.0)

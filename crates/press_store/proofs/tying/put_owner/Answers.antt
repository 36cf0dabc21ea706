use Rattle.std.proofs.Common.{Ok, Err, Result, ℕ}
use Rattle.std.specs.Prelude.{OnOk}
use Rattle.sqlite.specs.declared.error.Error.{Error}
use Rattle.sqlite.specs.Held.{state}
use Rattle.press_store.specs.Tables.{owner_text}
use Rattle.press_store.proofs.OwnerRows.{IsMember, OwnerPut, owner_params, owner_put}
use Rattle.press_store.proofs.Saved.{saves}
use Rattle.press_store.proofs.Texts.{owner_insert, owner_means}
use Rattle.press_store.proofs.Ties.{wrote, tied, version_kept, starts_kept, as_looked}
use Rattle.press_store.proofs.tying.put_owner.Goals as goal

is_up : (P Q : Type 0) (result : Result ℕ Error) → OnOk result (P × Q) → OnOk result P
is_up P Q (Ok count) h = h.0
is_up P Q (Err e) h = tt

pub returns-clause-looks : goal.returns-clause-looks
returns-clause-looks g c clean ready =
    let owner = c.args.owner in
    let m : IsMember owner = record { number = c.node_value.ensures.range; members = c.small_value.ensures.range; peers = c.digest_value.ensures.range } in
    as_looked g.S.Store g.met.S.Store.stays c.args.conn.now c.write.new.conn c.write.result
    (saves g.S.Store g.met.S.Store.settled owner_text (owner_params owner) owner_insert owner_means
    (λ l a b text count ran. ran) (λ l e. absurd (cc)) (λ l name e. absurd (cc)) (λ store. store)
    (λ l limit mode now after tally text has does. let it = owner_put l owner m limit mode now after tally text has does in (it.0, it.1.stands))
    c.args.conn.now c.write.new.conn c.write.result clean ready (rw (c.node_value.ensures.value, c.small_value.ensures.value, c.digest_value.ensures.value) at (c.write.ensures.ran clean)))
    (starts_kept owner (state g.S.Store c.args.conn.now) (state g.S.Store c.write.new.conn) c.write.result
    (wrote g.S.Store owner_text (owner_params owner) owner_insert owner_means
    (λ l a b text count ran. ran) (λ l e. absurd (cc)) (λ l name e. absurd (cc)) (OwnerPut owner)
    (λ l limit mode now after tally text has does. (owner_put l owner m limit mode now after tally text has does).1)
    c.args.conn.now c.write.new.conn c.write.result clean ready (rw (c.node_value.ensures.value, c.small_value.ensures.value, c.digest_value.ensures.value) at (c.write.ensures.ran clean))))

pub returns-clause-ties : goal.returns-clause-ties
returns-clause-ties g c clean ready free =
    let owner = c.args.owner in
    let m : IsMember owner = record { number = c.node_value.ensures.range; members = c.small_value.ensures.range; peers = c.digest_value.ensures.range } in
    tied g.S.Store g.met.S.Store.settled owner c.args.conn.now c.write.new.conn c.write.result free
    (wrote g.S.Store owner_text (owner_params owner) owner_insert owner_means
    (λ l a b text count ran. ran) (λ l e. absurd (cc)) (λ l name e. absurd (cc)) (OwnerPut owner)
    (λ l limit mode now after tally text has does. (owner_put l owner m limit mode now after tally text has does).1)
    c.args.conn.now c.write.new.conn c.write.result clean ready (rw (c.node_value.ensures.value, c.small_value.ensures.value, c.digest_value.ensures.value) at (c.write.ensures.ran clean)))

pub returns-clause-version : goal.returns-clause-version
returns-clause-version g c clean ready =
    let owner = c.args.owner in
    let m : IsMember owner = record { number = c.node_value.ensures.range; members = c.small_value.ensures.range; peers = c.digest_value.ensures.range } in
    version_kept g.S.Store g.met.S.Store.settled owner c.args.conn.now c.write.new.conn c.write.result
    (wrote g.S.Store owner_text (owner_params owner) owner_insert owner_means
    (λ l a b text count ran. ran) (λ l e. absurd (cc)) (λ l name e. absurd (cc)) (OwnerPut owner)
    (λ l limit mode now after tally text has does. (owner_put l owner m limit mode now after tally text has does).1)
    c.args.conn.now c.write.new.conn c.write.result clean ready (rw (c.node_value.ensures.value, c.small_value.ensures.value, c.digest_value.ensures.value) at (c.write.ensures.ran clean)))

pub returns-clause-opened : goal.returns-clause-opened
returns-clause-opened g c clean ready =
    let owner = c.args.owner in
    let m : IsMember owner = record { number = c.node_value.ensures.range; members = c.small_value.ensures.range; peers = c.digest_value.ensures.range } in
    is_up _ _ c.write.result
    (wrote g.S.Store owner_text (owner_params owner) owner_insert owner_means
    (λ l a b text count ran. ran) (λ l e. absurd (cc)) (λ l name e. absurd (cc)) (OwnerPut owner)
    (λ l limit mode now after tally text has does. (owner_put l owner m limit mode now after tally text has does).1)
    c.args.conn.now c.write.new.conn c.write.result clean ready (rw (c.node_value.ensures.value, c.small_value.ensures.value, c.digest_value.ensures.value) at (c.write.ensures.ran clean))).done

pub returns-clause-ready : goal.returns-clause-ready
returns-clause-ready g c ready clean = (returns-clause-looks g c clean ready).ready

use Rattle.std.proofs.Common.{Ok, Err, Result, arith, rules}
use Rattle.std.specs.Prelude.{IsTrue, IfOk, OnOk}
use Rattle.sqlite.specs.State.{HasCleanDisk}
use Rattle.sqlite.specs.Held.{state}
use Rattle.sqlite.proofs.Callers.{unchanged_then}
use Rattle.press_store.specs.Adopted.{IsOurs}
use Rattle.press_store.specs.Shown.{IsOurVersion}
use Rattle.press_store.proofs.Adopting.{looks_then, schema_still, trees_still, live_still}
use Rattle.press_store.proofs.adopt.has_both.Goals as goal

on_ok : {T E : Type 0} {P Q : Type 0} (result : Result T E) → (P → Q) → OnOk result P → OnOk result Q
on_ok (Ok x) so h = so h
on_ok (Err e) so h = tt

if_ok : {T E : Type 0} {P Q : T → Type 0} (result : Result T E) → ((t : T) → P t → Q t) → IfOk result P → IfOk result Q
if_ok (Ok t) so h = so t h
if_ok (Err e) so h = tt

pub returns-clause-looks : goal.returns-clause-looks
returns-clause-looks g c clean has =
    let old = state g.D.Store c.args.conn.now in
    let mid = state g.D.Store c.has_round.new.conn in
    let was : HasCleanDisk mid = omega (arith, c.has_version.ensures.clean, clean) in
    let same = c.in_ok-has_round.ensures.shows was has in
    looks_then old mid (state g.D.Store c.has_version.new.conn) same (c.in_ok-has_round.ensures.looks was has) (c.has_version.ensures.looks clean (schema_still IsOurs old mid same has))

pub returns-clause-shows : goal.returns-clause-shows
returns-clause-shows g c clean has =
    let old = state g.D.Store c.args.conn.now in
    let mid = state g.D.Store c.has_round.new.conn in
    let was : HasCleanDisk mid = omega (arith, c.has_version.ensures.clean, clean) in
    let same = c.in_ok-has_round.ensures.shows was has in
    on_ok c.has_version.result (λ then_same. unchanged_then old mid (state g.D.Store c.has_version.new.conn) same then_same) (c.has_version.ensures.shows clean (schema_still IsOurs old mid same has))

pub returns-clause-tells : goal.returns-clause-tells
returns-clause-tells g c clean has live =
    let old = state g.D.Store c.args.conn.now in
    let mid = state g.D.Store c.has_round.new.conn in
    let was : HasCleanDisk mid = omega (arith, c.has_version.ensures.clean, clean) in
    let same = c.in_ok-has_round.ensures.shows was has in
    let found : IsTrue c.in_ok-has_round.field-0 = search rules in
    let kept = c.in_ok-has_round.ensures.tells was has live found in
    if_ok c.has_version.result (λ _ tells is. (kept, trees_still IsOurVersion old mid same (tells is))) (c.has_version.ensures.tells clean (schema_still IsOurs old mid same has) (live_still old mid same live))

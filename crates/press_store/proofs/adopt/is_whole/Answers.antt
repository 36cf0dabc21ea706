use Rattle.std.proofs.Common.{◌≡◌, Ok, Err, Result, codes, true, false, sym, ap, ◌∙◌, arith, rules}
use Rattle.std.specs.Prelude.{IsTrue, IfOk, OnOk}
use Rattle.sqlite.specs.State.{HasCleanDisk}
use Rattle.sqlite.specs.Held.{state}
use Rattle.sqlite.proofs.Callers.{unchanged_then}
use Rattle.press_store.specs.Adopted.{IsOurs, has_table}
use Rattle.press_store.specs.Adopting.{IsMoved}
use Rattle.press_store.specs.Shown.{IsEmptied}
use Rattle.press_store.proofs.Adopting.{handed_back, has_old_moved, live_still, looks_then, no_old_emptied, schema_still, trees_still, whole_seen}
use Rattle.press_store.proofs.adopt.is_whole.Goals as goal

if_both : {T E : Type 0} {P : Type 0} {Q R : T → Type 0} (result : Result T E) → ((t : T) → P → Q t → R t) → OnOk result P → IfOk result Q → IfOk result R
if_both (Ok t) so p q = so t p q
if_both (Err e) so p q = tt

pub returns-then-not-has_old-clause-passed : goal.returns-then-not-has_old-clause-passed
returns-then-not-has_old-clause-passed g c clean has _ =
    let old = c.args.conn.now in
    let mid = c.has_both.new.conn in
    let same = c.in_ok-has_both.ensures.shows clean has in
    let found : IsTrue c.in_ok-has_both.field-0 = search rules in
    let (kept, version) = c.in_ok-has_both.ensures.tells clean has c.requires.live found in
    let none : has_table mid.schema (codes "promise") ≡ false = ap (λ s. has_table s (codes "promise")) (sym c.schema.ensures.value) ∙ sym c.has_old.ensures ∙ c.if-not-has_old.true in
    let left = no_old_emptied (state g.D.Store mid) (schema_still IsOurs (state g.D.Store old) (state g.D.Store mid) same has) none c.schema.ensures.live same.0.is_open in
    whole_seen g.D.Store g.met.D.Store.settled old mid c.requires.quiet c.requires.unlimited c.requires.settled c.requires.live has kept version (trees_still IsEmptied (state g.D.Store old) (state g.D.Store mid) same left) same
    (c.in_ok-has_both.ensures.looks clean has)

pub returns-clause-passed : goal.returns-clause-passed
returns-clause-passed g c clean has =
    let old = c.args.conn.now in
    let mid = c.has_both.new.conn in
    let new = c.is_emptied.new.conn in
    let was : HasCleanDisk (state g.D.Store mid) = omega (arith, c.is_emptied.ensures.clean, clean) in
    let same = c.in_ok-has_both.ensures.shows was has in
    let found : IsTrue c.in_ok-has_both.field-0 = search rules in
    let (kept, version) = c.in_ok-has_both.ensures.tells was has c.requires.live found in
    let there : has_table mid.schema (codes "promise") ≡ true = ap (λ s. has_table s (codes "promise")) (sym c.schema.ensures.value) ∙ sym c.has_old.ensures ∙ c.if-not-has_old.false in
    let moved : IsMoved mid.schema = has_old_moved mid.schema (schema_still IsOurs (state g.D.Store old) (state g.D.Store mid) same has) there in
    let looks = looks_then (state g.D.Store old) (state g.D.Store mid) (state g.D.Store new) same (c.in_ok-has_both.ensures.looks was has) (c.is_emptied.ensures.looks clean moved) in
    if_both c.is_emptied.result
    (λ _ two tells is. whole_seen g.D.Store g.met.D.Store.settled old new c.requires.quiet c.requires.unlimited c.requires.settled c.requires.live has kept version (trees_still IsEmptied (state g.D.Store old) (state g.D.Store mid) same (tells is))
    (unchanged_then (state g.D.Store old) (state g.D.Store mid) (state g.D.Store new) same two) looks)
    (c.is_emptied.ensures.shows clean moved) (c.is_emptied.ensures.tells clean moved (live_still (state g.D.Store old) (state g.D.Store mid) same c.requires.live))

pub returns-clause-back : goal.returns-clause-back
returns-clause-back g c clean has =
    let old = c.args.conn.now in
    let mid = c.has_both.new.conn in
    let new = c.is_emptied.new.conn in
    let was : HasCleanDisk (state g.D.Store mid) = omega (arith, c.is_emptied.ensures.clean, clean) in
    let same = c.in_ok-has_both.ensures.shows was has in
    let there : has_table mid.schema (codes "promise") ≡ true = ap (λ s. has_table s (codes "promise")) (sym c.schema.ensures.value) ∙ sym c.has_old.ensures ∙ c.if-not-has_old.false in
    let moved : IsMoved mid.schema = has_old_moved mid.schema (schema_still IsOurs (state g.D.Store old) (state g.D.Store mid) same has) there in
    handed_back (state g.D.Store old) (state g.D.Store new) c.requires.settled
    (looks_then (state g.D.Store old) (state g.D.Store mid) (state g.D.Store new) same (c.in_ok-has_both.ensures.looks was has) (c.is_emptied.ensures.looks clean moved))

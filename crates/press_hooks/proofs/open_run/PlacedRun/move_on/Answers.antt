use Rattle.std.proofs.Common.{◌≡◌, ◌∙◌, ap, sym, Some}
use Rattle.std.specs.Prelude.{Result, Ok, Err, OnErr}
use Rattle.press_hooks.specs.declared.open_run.OpenRun.{OpenRun}
use Rattle.press_hooks.specs.Hooked.{table_rows, groups_named, up_to}
use Rattle.press_hooks.proofs.OfHook.{done_empty}
use Rattle.press_hooks.proofs.Reaching.{no_group, next_group, next_moves_on, behind_group}
use Rattle.press_hooks.proofs.open_run.PlacedRun.move_on.Goals as goal

on_err : {T E P : Type 0} (r : Result T E) → P → OnErr r P
on_err (Ok x) p = tt
on_err (Err e) p = p

pub returns-in_ok-reach-clause-moved : goal.returns-in_ok-reach-clause-moved
returns-in_ok-reach-clause-moved c =
    let at : c.args.self.now.cursor ≡ up_to c.args.self.now.run.reached c.groups_near-groups.result.now = c.requires.place ∙ ap (up_to c.args.self.now.run.reached) (sym c.groups_near-groups.ensures.groups) in
    c.in_ok-reach.ensures.reached
    ∙ next_group (table_rows c.args.rows.now) c.args.self.now.run c.groups_near-groups.result.now c.args.self.now.cursor c.groups_near-groups.ensures.rows c.groups_near-groups.ensures.order at (done_empty c.args.self.now.run.rest c.requires.done) c.index-groups-self.result c.if-self-groups.true c.index-groups-self.is

pub returns-in_ok-reach-clause-place : goal.returns-in_ok-reach-clause-place
returns-in_ok-reach-clause-place c =
    behind_group c.groups_near-groups.result.now c.args.self.now.cursor c.index-groups-self.result c.groups_near-groups.ensures.order c.if-self-groups.true c.index-groups-self.is
    ∙ (ap (up_to (Some c.index-groups-self.result.priority)) c.groups_near-groups.ensures.groups
    ∙ ap (λ (r : OpenRun). up_to r.reached (groups_named r.hook c.args.rows.now)) (sym c.in_ok-reach.ensures.reached))

pub returns-else-self-groups-clause-moved : goal.returns-else-self-groups-clause-moved
returns-else-self-groups-clause-moved c =
    let at : c.args.self.now.cursor ≡ up_to c.args.self.now.run.reached c.groups_near-groups.result.now = c.requires.place ∙ ap (up_to c.args.self.now.run.reached) (sym c.groups_near-groups.ensures.groups) in
    no_group (table_rows c.args.rows.now) c.args.self.now.run c.groups_near-groups.result.now c.args.self.now.cursor c.groups_near-groups.ensures.rows c.groups_near-groups.ensures.order at (done_empty c.args.self.now.run.rest c.requires.done) c.if-self-groups.false

pub returns-in_err-reach-clause-memory : goal.returns-in_err-reach-clause-memory
returns-in_err-reach-clause-memory c =
    let at : c.args.self.now.cursor ≡ up_to c.args.self.now.run.reached c.groups_near-groups.result.now = c.requires.place ∙ ap (up_to c.args.self.now.run.reached) (sym c.groups_near-groups.ensures.groups) in
    on_err c.from_residual.result (next_moves_on (table_rows c.args.rows.now) c.args.self.now.run c.groups_near-groups.result.now c.args.self.now.cursor c.groups_near-groups.ensures.rows c.groups_near-groups.ensures.order at (done_empty c.args.self.now.run.rest c.requires.done) c.index-groups-self.result c.if-self-groups.true c.index-groups-self.is)

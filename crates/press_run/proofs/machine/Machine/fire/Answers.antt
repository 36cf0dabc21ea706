use Rattle.std.proofs.lemmas.Result.{err_from_is_err_and}
use Rattle.press_run.specs.Standing.{machine_view}
use Rattle.press_run.proofs.Entries.{fire_starts, fire_stops, fires_end_with}
use Rattle.press_run.proofs.machine.Machine.fire.Goals as goal

pub returns-in_default-clause-steps : goal.returns-in_default-clause-steps
returns-in_default-clause-steps g c = λ scripts.
    rw c.replace.ensures.value (fires_end_with g.L.SiteLink.changes scripts c.args.fires.now (machine_view g.L.SiteLink.view g.L.SiteLink.fixed c.args.self.now) (rw c.in_default.is at c.next.ensures.fire))

pub returns-in_err-begun-clause-steps : goal.returns-in_err-begun-clause-steps
returns-in_err-begun-clause-steps g c = λ scripts.
    let p = err_from_is_err_and c.from_residual-in_err-begun.result c.from_residual-in_err-begun.ensures.1 in
    rw (p.1, p.2) (fire_stops g.L.SiteLink.changes scripts c.args.fires.now (machine_view g.L.SiteLink.view g.L.SiteLink.fixed c.args.self.now)
    c.in-Some.fire.now c.in_ok-args.args (rw c.in-Some.is at c.next.ensures.fire) c.in_ok-args.ensures c.in_err-begun.field-0.0 (c.in_err-begun.ensures.begins scripts))

pub returns-clause-steps : goal.returns-clause-steps
returns-clause-steps g c = λ scripts.
    rw c.into_step.ensures (fire_starts g.L.SiteLink.changes scripts c.args.fires.now (machine_view g.L.SiteLink.view g.L.SiteLink.fixed c.args.self.now)
    c.in-Some.fire.now c.in_ok-args.args (rw c.in-Some.is at c.next.ensures.fire) c.in_ok-args.ensures (machine_view g.L.SiteLink.view g.L.SiteLink.fixed c.begin_action.new.self) c.in_ok-begun.begun (c.in_ok-begun.ensures.begins scripts))

use Rattle.std.proofs.Common.{sym}
use Rattle.press_run.specs.Frames.{frame_meaning, round}
use Rattle.press_run.specs.Outcome.{around, job_meaning, state_of}
use Rattle.press_run.specs.Standing.{machine_view}
use Rattle.press_run.proofs.Resumed.{job_runs}
use Rattle.press_run.proofs.machine.Machine.answer.Goals as goal

pub play-requires : goal.play-requires
play-requires g c =
    let begun = rw c.in-Opens.is at (c.in_ok-frame.ensures.begins (g.K.Callbacks.scripts c.args.kit.now)) in
    begun.ready

pub returns-in-Opens-clause-gives : goal.returns-in-Opens-clause-gives
returns-in-Opens-clause-gives g c =
    let begun = rw c.in-Opens.is at (c.in_ok-frame.ensures.begins (g.K.Callbacks.scripts c.args.kit.now)) in
    job_runs (frame_meaning g.L.SiteLink.changes (g.K.Callbacks.scripts c.args.kit.now) c.in-Opens.frame (around (machine_view g.L.SiteLink.view g.L.SiteLink.fixed c.begin_job.new.self)) (state_of (machine_view g.L.SiteLink.view g.L.SiteLink.fixed c.begin_job.new.self))) (job_meaning g.L.SiteLink.changes (g.K.Callbacks.scripts c.args.kit.now) c.args.job (state_of (machine_view g.L.SiteLink.view g.L.SiteLink.fixed c.args.self.now))) (round c.in-Opens.frame (around (machine_view g.L.SiteLink.view g.L.SiteLink.fixed c.begin_job.new.self))) (around (machine_view g.L.SiteLink.view g.L.SiteLink.fixed c.args.self.now)) (machine_view g.L.SiteLink.view g.L.SiteLink.fixed c.play.new.self) c.play.result
    begun.same begun.stands c.play.ensures.gives

pub returns-in-Gives-clause-gives : goal.returns-in-Gives-clause-gives
returns-in-Gives-clause-gives g c =
    let begun = rw c.in-Gives.is at (c.in_ok-frame.ensures.begins (g.K.Callbacks.scripts c.args.kit.now)) in
    (sym begun.same, begun.stands)

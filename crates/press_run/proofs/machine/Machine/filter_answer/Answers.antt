use Rattle.std.proofs.Common.{◌∙◌, sym}
use Rattle.press_run.specs.Standing.{machine_view}
use Rattle.press_run.proofs.Pieces.{filter_begins}
use Rattle.press_run.proofs.machine.Machine.filter_answer.Goals as goal

pub returns-clause-steps : goal.returns-clause-steps
returns-clause-steps g c = λ scripts.
    rw (c.into_step.ensures, c.replace.ensures.after) (filter_begins g.L.SiteLink.changes scripts c.args.scan.now (machine_view g.L.SiteLink.view g.L.SiteLink.fixed c.args.self.now) c.in-Came.answer c.in-Came.tag (sym c.replace.ensures.value ∙ c.in-Came.is) c.requires.awaits
    (machine_view g.L.SiteLink.view g.L.SiteLink.fixed c.begin_filter.new.self) c.in_ok-begun.begun (c.in_ok-begun.ensures.begins scripts))

use Rattle.press_run.specs.Standing.{machine_view}
use Rattle.press_run.proofs.Begins.{turn_counts}
use Rattle.press_run.proofs.machine.Machine.count_turn.Goals as goal

pub returns-clause-steps : goal.returns-clause-steps
returns-clause-steps g c = λ scripts.
    turn_counts g.L.SiteLink.changes scripts c.args.callback.now c.do_turn.new.callback c.args.turn (machine_view g.L.SiteLink.view g.L.SiteLink.fixed c.args.self.now) (machine_view g.L.SiteLink.view g.L.SiteLink.fixed c.do_turn.new.self) c.add_turn.new.self c.do_turn.result
    c.add_turn.ensures c.requires.short (c.do_turn.ensures.steps scripts)

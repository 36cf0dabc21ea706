use Rattle.press_callbacks.specs.declared.script.Turn.TheVariants as turns
use Rattle.press_run.specs.Standing.{machine_view}
use Rattle.press_run.proofs.Begins.{turn_counts, with_counts}
use Rattle.press_run.proofs.machine.Machine.set_value.Goals as goal

pub returns-clause-steps : goal.returns-clause-steps
returns-clause-steps g c = λ scripts.
    let old = machine_view g.L.SiteLink.view g.L.SiteLink.fixed c.args.self.now in
    let counted = with_counts c.add_turn.new.self old in
    turn_counts g.L.SiteLink.changes scripts c.args.callback.now c.end_set_value.new.callback (turns.Go c.args.value) old counted c.add_turn.new.self c.end_set_value.result
    c.add_turn.ensures c.requires.short (c.end_set_value.ensures.steps scripts)

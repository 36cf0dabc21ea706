use Rattle.std.proofs.Common.{refl, Ok, arith}
use Rattle.press_callbacks.specs.declared.script.Turn.TheVariants as turns
use Rattle.press_run.specs.Standing.{machine_view}
use Rattle.press_run.specs.declared.step.Step.TheVariants as step
use Rattle.press_run.proofs.Begins.{turn_counts, with_counts}
use Rattle.press_run.proofs.machine.Machine.return_text.Goals as goal

pub returns-clause-steps : goal.returns-clause-steps
returns-clause-steps g c = λ scripts.
    let old = machine_view g.L.SiteLink.view g.L.SiteLink.fixed c.args.self.now in
    let counted = with_counts c.add_turn.new.self old in
    turn_counts g.L.SiteLink.changes scripts c.args.callback.now c.args.callback.now (turns.Return c.args.text) old counted c.add_turn.new.self (Ok (step.Gives c.args.text))
    c.add_turn.ensures c.requires.short (record { same = refl; stands = refl; less = omega arith })

use Rattle.std.proofs.lemmas.Result.{err_from_is_err_and}
use Rattle.press_callbacks.specs.Kits.{kit_view}
use Rattle.press_program.specs.declared.ending.Ending.TheVariants.{Fault}
use Rattle.press_world.specs.declared.replay_fault.ReplayFault.TheVariants.{NoMemory}
use Rattle.press_program.proofs.Ends.{missed, outside, shown}
use Rattle.press_program.proofs.ending.try_page.Goals as goal

pub returns-in_err-commands-clause-ends : goal.returns-in_err-commands-clause-ends
returns-in_err-commands-clause-ends g c =
    let p = err_from_is_err_and c.from_residual.result c.from_residual.ensures.1 in
    rw (p.1, p.2) (missed (kit_view c.args.kit.now) c.args.target.now (g.R.Read.remaining c.args.reader.now) c.in_err-commands.field-0.0 c.in_err-commands.ensures.gives)

pub returns-in_err-page_after-clause-ends : goal.returns-in_err-page_after-clause-ends
returns-in_err-page_after-clause-ends g c =
    let p = err_from_is_err_and c.from_residual-in_err-page_after.result c.from_residual-in_err-page_after.ensures.1 in
    rw (p.1, p.2) (outside (kit_view c.args.kit.now) c.args.target.now (g.R.Read.remaining c.args.reader.now) (Fault NoMemory) tt)

pub returns-clause-ends : goal.returns-clause-ends
returns-clause-ends g c =
    shown (kit_view c.args.kit.now) c.args.target.now (g.R.Read.remaining c.args.reader.now) _ c.in_ok-page_after.field-0 c.in_ok-commands.ensures.gives c.in_ok-page_after.ensures

use Rattle.std.proofs.Common.{length}
use Rattle.std.proofs.lemmas.Result.{err_from_is_err_and}
use Rattle.press_program.specs.Endings.{known_of}
use Rattle.press_program.specs.KitFiles.{view_of_source}
use Rattle.press_program.specs.Words.{several_of}
use Rattle.press_program.specs.declared.ending.Ending.TheVariants.{Fault}
use Rattle.press_world.specs.declared.replay_fault.ReplayFault.TheVariants.{NoMemory}
use Rattle.press_program.proofs.Behind.{missed, outside, shown}
use Rattle.press_program.proofs.over.Over.end_of_several.Goals as goal

pub returns-in_err-commands-clause-ends : goal.returns-in_err-commands-clause-ends
returns-in_err-commands-clause-ends g c =
    let p = err_from_is_err_and c.from_residual.result c.from_residual.ensures.1 in
    rw (p.1, p.2) (missed (view_of_source c.args.self.now.kit.now) c.args.files.now.target (known_of c.args.files.now.file.now (g.R.Read.remaining c.args.reader.now)) (length (several_of c.args.files.now).further) c.in_err-commands.field-0.0 c.in_err-commands.ensures.gives)

pub returns-in_err-page_of-clause-ends : goal.returns-in_err-page_of-clause-ends
returns-in_err-page_of-clause-ends g c =
    let p = err_from_is_err_and c.from_residual-in_err-page_of.result c.from_residual-in_err-page_of.ensures.1 in
    rw (p.1, p.2) (outside (view_of_source c.args.self.now.kit.now) c.args.files.now.target (known_of c.args.files.now.file.now (g.R.Read.remaining c.args.reader.now)) (length (several_of c.args.files.now).further) (Fault NoMemory) tt)

pub returns-clause-ends : goal.returns-clause-ends
returns-clause-ends g c =
    shown (view_of_source c.args.self.now.kit.now) c.args.files.now.target (known_of c.args.files.now.file.now (g.R.Read.remaining c.args.reader.now)) (length (several_of c.args.files.now).further) _ c.in_ok-page_of.field-0 c.in_ok-commands.ensures.gives c.in_ok-page_of.ensures

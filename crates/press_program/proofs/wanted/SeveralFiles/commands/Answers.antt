use Rattle.std.proofs.Common.{◌++◌, ◌∙◌, ap₂, length}
use Rattle.std.proofs.lemmas.Result.{err_from_is_err_and}
use Rattle.press_program.specs.Endings.{known_of}
use Rattle.press_program.specs.Words.{several_of}
use Rattle.press_program.proofs.Behind.{both_read, front_stops, named_stops, without_memory}
use Rattle.press_program.proofs.wanted.SeveralFiles.commands.Goals as goal

pub returns-in_err-first-clause-gives : goal.returns-in_err-first-clause-gives
returns-in_err-first-clause-gives g c =
    let p = err_from_is_err_and c.from_residual.result c.from_residual.ensures.1 in
    rw (p.1, p.2) (front_stops (known_of c.args.self.now.file.now (g.R.Read.remaining c.args.reader.now)) (length (several_of c.args.self.now).further) c.in_err-first.field-0.0 c.in_err-first.ensures.gives)

pub returns-in_err-further-clause-gives : goal.returns-in_err-further-clause-gives
returns-in_err-further-clause-gives g c =
    let p = err_from_is_err_and c.from_residual-in_err-further.result c.from_residual-in_err-further.ensures.1 in
    let named = rw c.deref.ensures.value at c.in_err-further.ensures in
    rw (p.1, p.2) (named_stops (known_of c.args.self.now.file.now (g.R.Read.remaining c.args.reader.now)) (length (several_of c.args.self.now).further) _ c.in_err-further.field-0.0 c.in_ok-first.ensures.gives named)

pub returns-in_err-append-clause-gives : goal.returns-in_err-append-clause-gives
returns-in_err-append-clause-gives g c =
    let p = err_from_is_err_and c.from_residual-in_err-append.result c.from_residual-in_err-append.ensures.1 in
    rw (p.1, p.2) (without_memory (known_of c.args.self.now.file.now (g.R.Read.remaining c.args.reader.now)) (length (several_of c.args.self.now).further) _ c.in_ok-first.ensures.gives)

pub returns-clause-gives : goal.returns-clause-gives
returns-clause-gives g c =
    let named = rw c.deref.ensures.value at c.in_ok-further.ensures in
    let all = c.in_ok-append.ensures.items ∙ ap₂ (λ commands more. commands ++ more) c.into_vec-commands.ensures c.into_vec-more.ensures in
    rw c.from_vec.ensures (both_read (known_of c.args.self.now.file.now (g.R.Read.remaining c.args.reader.now)) (length (several_of c.args.self.now).further) _ _ c.append.new.self.items c.in_ok-first.ensures.gives named all)

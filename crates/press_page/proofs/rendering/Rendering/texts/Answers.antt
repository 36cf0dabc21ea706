use Rattle.std.proofs.lemmas.Result.{err_from_is_err_and}
use Rattle.press_page.specs.Rendering.{meaning_in, state_in}
use Rattle.press_page.proofs.Steps.{texts_found, texts_stop}
use Rattle.press_page.proofs.rendering.Rendering.texts.Goals as goal

pub returns-in_err-content-clause-gives : goal.returns-in_err-content-clause-gives
returns-in_err-content-clause-gives g c =
    let p = err_from_is_err_and c.from_residual-in_err-content.result c.from_residual-in_err-content.ensures.1 in
    rw (p.1, p.2) (texts_stop c.in_err-content.field-0.0 (meaning_in c.args.kit.now) c.args.post.now (state_in c.args.self.now) (state_in c.title_of.new.self) c.in_ok-title.title c.in_ok-title.ensures.answers c.in_err-content.ensures.answers)

pub returns-clause-gives : goal.returns-clause-gives
returns-clause-gives g c =
    texts_found (meaning_in c.args.kit.now) c.args.post.now (state_in c.args.self.now) (state_in c.title_of.new.self) (state_in c.content_of.new.self) c.in_ok-title.title c.in_ok-content.content c.in_ok-title.ensures.answers c.in_ok-content.ensures.answers

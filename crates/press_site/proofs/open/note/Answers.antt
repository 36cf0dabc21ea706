use Rattle.std.proofs.Common.{◌≡◌, subst, List}
use Rattle.std.specs.Prelude.{Result, Ok, IfOk, is_none}
use Rattle.std.proofs.lemmas.Result.{err_from_is_err_and}
use Rattle.press_events.specs.declared.event.Event.{Event}
use Rattle.press_site.specs.Back.{Does, GoesBack, TakesNone}
use Rattle.press_site.specs.Log.{note_change}
use Rattle.press_site.specs.declared.fault.SiteFault.{SiteFault}
use Rattle.press_site.specs.declared.stood.Done.{Done}
use Rattle.press_site.proofs.Noted.{both, done_well}
use Rattle.press_site.proofs.open.note.Goals as goal

pub returns-in-Ok-clause-notes : goal.returns-in-Ok-clause-notes
returns-in-Ok-clause-notes c = λ meant before d g s.
    let x : Done = c.in_ok-changed.field-0 in
    let is : c.args.done ≡ Ok x = c.in_ok-changed.was in
    done_well meant before c.args.site.now c.args.undo.now x c.note.new.self
    (subst (λ (es : List Event). c.note.new.self ≡ note_change x.undone es c.args.undo.now) c.events.ensures c.in-Ok.ensures.ok)
    (subst (λ (r : Result Done SiteFault). Does r meant before c.args.site.now) is d)
    (subst (λ (r : Result Done SiteFault). IfOk r (λ d. GoesBack (is_none c.args.undo.now.events) d.undone c.args.site.now before)) is g)

pub returns-in_err-changed-clause-none : goal.returns-in_err-changed-clause-none
returns-in_err-changed-clause-none c = λ t.
    let p = err_from_is_err_and c.from_residual.result c.from_residual.ensures.1 in
    rw (p.1, p.2) (λ n. subst (λ (r : Result Done SiteFault). TakesNone r) c.in_err-changed.was t (cc))

pub returns-in-Err-clause-none : goal.returns-in-Err-clause-none
returns-in-Err-clause-none c = λ t n.
    let none = subst (λ (r : Result Done SiteFault). TakesNone r) c.in_ok-changed.was t in
    both c.in-Err.ensures.memory none

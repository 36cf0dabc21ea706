use Rattle.std.proofs.Common.{ap₂, sym, subst, ◌≡◌, ◌∙◌, []}
use Rattle.std.proofs.lemmas.List.{nil_from_length}
use Rattle.std.specs.Prelude.{IfOk, Ok}
use Rattle.std.specs.Vec.Iter.{into_iter_items}
use Rattle.press_callbacks.specs.Kits.{kit_view, scripts_given, view_of}
use Rattle.press_demonstration.specs.Demonstration.{demonstration, scripts}
use Rattle.press_program.specs.Endings.{page_ending}
use Rattle.press_program.proofs.Pushes.{is_done}
use Rattle.press_program.proofs.over.Over.demonstrated_page.Goals as goal

pub returns-in-Ok : goal.returns-in-Ok
returns-in-Ok g c =
    let none : into_iter_items c.loop-scripted.scripted-iterator ≡ [] =
    nil_from_length (into_iter_items c.loop-scripted.scripted-iterator) (sym c.loop-scripted.scripted-iterator.rest.ok.0 ∙ c.in-None.ensures.steps.0) in
    let scripts_are : scripts_given c.loop-scripted.callbacks.items ≡ scripts =
    is_done (scripts_given c.loop-scripted.callbacks.items) (into_iter_items c.loop-scripted.scripted-iterator) scripts none c.loop-scripted.invariant in
    let built = rw c.in-Ok.is at c.build.ensures.builds in
    let view_is : kit_view c.in-Ok.kit ≡ demonstration = built.1 ∙ ap₂ view_of scripts_are c.in_ok-parts.ensures.plugins in
    subst (λ k. IfOk c.page_after.result (λ end. end ≡ page_ending k c.args.target.now (Ok c.args.commands))) view_is c.page_after.ensures

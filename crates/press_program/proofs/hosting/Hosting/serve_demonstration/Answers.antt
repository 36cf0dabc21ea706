use Rattle.std.proofs.Common.{ap₂, sym, subst, ◌≡◌, ◌∙◌, []}
use Rattle.std.proofs.lemmas.List.{nil_from_length}
use Rattle.std.specs.Vec.Iter.{into_iter_items}
use Rattle.press_callbacks.specs.Kits.{kit_view, scripts_given, view_of}
use Rattle.press_demonstration.specs.Demonstration.{demonstration, scripts}
use Rattle.press_program.specs.Words.{server_of}
use Rattle.press_program.proofs.Pushes.{is_done}
use Rattle.press_program.proofs.hosting.Hosting.serve_demonstration.Goals as goal

pub returns-in-Ok-clause-served : goal.returns-in-Ok-clause-served
returns-in-Ok-clause-served g c =
    let none : into_iter_items c.loop-scripted.scripted-iterator ≡ [] =
    nil_from_length (into_iter_items c.loop-scripted.scripted-iterator) (sym c.loop-scripted.scripted-iterator.rest.ok.0 ∙ c.in-None.ensures.steps.0) in
    let scripts_are : scripts_given c.loop-scripted.callbacks.items ≡ scripts =
    is_done (scripts_given c.loop-scripted.callbacks.items) (into_iter_items c.loop-scripted.scripted-iterator) scripts none c.loop-scripted.invariant in
    let built = rw c.in-Ok.is at c.build.ensures.builds in
    let view_is : kit_view c.in-Ok.kit ≡ demonstration = built.1 ∙ ap₂ view_of scripts_are c.in_ok-parts.ensures.plugins in
    subst (λ k. g.S.Serves.served k (server_of c.args.setup.now) c.serve-ended.result) view_is c.serve-ended.ensures.served

use Rattle.std.proofs.Common.{◌≡◌, ◌∙◌, [], ap₂, map, subst, sym}
use Rattle.std.proofs.lemmas.List.{nil_from_length}
use Rattle.std.specs.Prelude.{IfOk}
use Rattle.std.specs.Vec.Iter.{into_iter_items}
use Rattle.press_callbacks.specs.Kits.{KitView, kit_view, scripts_given, view_of}
use Rattle.press_handover.specs.Comparing.{told_of, view_of_parts}
use Rattle.press_handover.specs.Handovers.{all_otherwise}
use Rattle.press_handover.specs.Voted.{voted_values}
use Rattle.press_handover.proofs.Built.{all_put}
use Rattle.press_handover.proofs.comparing.compare.Goals as goal

pub returns-clause-compared : goal.returns-clause-compared
returns-clause-compared g c = λ h.
    let values = voted_values (g.S.PromiseStore.seen c.args.store.now).kept in
    let old_rest = into_iter_items c.loop-scripted.scripted-iterator in
    let old_none : old_rest ≡ [] = nil_from_length old_rest (sym c.loop-scripted.scripted-iterator.rest.ok.0 ∙ c.in-None.ensures.steps.0) in
    let old_scripts : scripts_given c.loop-scripted.callbacks.items ≡ map (λ s. (s.id, s.script)) c.args.old.callbacks =
    all_put (scripts_given c.loop-scripted.callbacks.items) old_rest _ old_none c.loop-scripted.invariant in
    let old_built = rw c.in-Ok.is at c.build.ensures.builds in
    let old_view : kit_view c.in-Ok.before ≡ view_of_parts c.args.old = old_built.1 ∙ ap₂ view_of old_scripts c.into_vec.ensures in
    let new_rest = into_iter_items c.loop-scripted-2.scripted-iterator in
    let new_none : new_rest ≡ [] = nil_from_length new_rest (sym c.loop-scripted-2.scripted-iterator.rest.ok.0 ∙ c.in-None-scripted.ensures.steps.0) in
    let new_scripts : scripts_given c.loop-scripted-2.callbacks.items ≡ map (λ s. (s.id, s.script)) c.args.new.callbacks =
    all_put (scripts_given c.loop-scripted-2.callbacks.items) new_rest _ new_none c.loop-scripted-2.invariant in
    let new_built = rw c.in-Ok-2.is at c.build-2.ensures.builds in
    let new_view : kit_view c.in-Ok-2.after ≡ view_of_parts c.args.new = new_built.1 ∙ ap₂ view_of new_scripts c.into_vec-2.ensures in
    let both = c.compare_kits.ensures.compared h in
    let one = subst (λ (v : KitView). IfOk c.compare_kits.result (λ compared. told_of compared (all_otherwise (kit_view c.in-Ok.before) v values))) new_view both in
    subst (λ (v : KitView). IfOk c.compare_kits.result (λ compared. told_of compared (all_otherwise v (view_of_parts c.args.new) values))) old_view one

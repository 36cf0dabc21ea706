use Rattle.std.proofs.Common.{◌≡◌, ◌∙◌, ℕ, List, [], map, sym, ap}
use Rattle.std.proofs.lemmas.List.{nil_from_length}
use Rattle.std.specs.Vec.Iter.{into_iter_items}
use Rattle.press_callbacks.specs.Kits.{Scripts}
use Rattle.press_callbacks.specs.declared.script.Op.{Op}
use Rattle.press_demonstration.specs.Demonstration.{plugins, scripts}
use Rattle.press_kit.specs.declared.kit_parts.Scripted.{Scripted}
use Rattle.press_handover.specs.Kept.{demonstration_parts}
use Rattle.press_handover.proofs.Demonstrated.{is_done, put_together}
use Rattle.press_handover.proofs.kept.demonstration.Goals as goal

pub returns : goal.returns
returns c =
    let left = into_iter_items c.loop-one.one-iterator in
    let none : left ≡ [] = nil_from_length left (sym c.loop-one.one-iterator.rest.ok.0 ∙ c.in-None.ensures.steps.0) in
    let named = map (λ (s : Scripted). (s.id, s.script)) c.loop-one.callbacks.items in
    let scripts_are : named ≡ scripts = is_done named left scripts none c.loop-one.invariant in
    let callbacks_are : c.from_vec.result ≡ demonstration_parts.callbacks =
    c.from_vec.ensures ∙ sym (put_together c.loop-one.callbacks.items) ∙ ap (λ (xs : Scripts). map (λ (c : List ℕ × List Op). record { id = c.0; script = c.1 }) xs) scripts_are in
    let plugins_are : c.from_vec-2.result ≡ plugins = c.from_vec-2.ensures ∙ c.in_ok-growing.ensures.plugins in
    λ i. record { callbacks = callbacks_are i; plugins = plugins_are i }

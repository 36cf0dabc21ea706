use Rattle.std.proofs.Common.{◌≡◌, ◌∙◌, refl, ap, sym, List}
use Rattle.std.specs.Prelude.{slice_index_or}
use Rattle.press_events.specs.declared.event.Event.{Event}
use Rattle.press_events.proofs.Shifting.{any_default, none_other, some_other}
use Rattle.press_events.proofs.events.stands_beside.Goals as goal

pub returns-in-Some : goal.returns-in-Some
returns-in-Some c = λ d.
    let es : List Event = c.args.events.now in
    let e : Event = slice_index_or es c.args.place d in
    let is : c.index-events-place.result ≡ e = c.index-events-place.is ∙ any_default es c.args.place c.index-events-place.result d c.requires.within in
    some_other es c.args.place c.in-Some.other c.args.time c.as_str.result.now c.as_str-2.result.now e _ c.requires.within c.requires.once (c.as_str.ensures.value ∙ ap (λ (x : Event). x.hook) is) (c.as_str-2.ensures ∙ ap (λ (x : Event). x.arg) is)
    (sym c.in-Some.ensures.place) refl

pub returns-in-None : goal.returns-in-None
returns-in-None c = λ d.
    let es : List Event = c.args.events.now in
    let e : Event = slice_index_or es c.args.place d in
    let is : c.index-events-place.result ≡ e = c.index-events-place.is ∙ any_default es c.args.place c.index-events-place.result d c.requires.within in
    none_other es c.args.place c.args.time c.as_str.result.now c.as_str-2.result.now e (c.as_str.ensures.value ∙ ap (λ (x : Event). x.hook) is) (c.as_str-2.ensures ∙ ap (λ (x : Event). x.arg) is)
    (sym c.in-None.ensures.place)

use Rattle.std.proofs.Common.{◌≡◌, ◌∙◌, ◌<◌, ap, sym, subst, length, List, Some}
use Rattle.std.specs.Prelude.{option_map, slice_index_or}
use Rattle.press_events.specs.DueEvents.{moment_next, place_of}
use Rattle.press_events.specs.Shifts.{move_event}
use Rattle.press_events.specs.declared.event.Event.{Event}
use Rattle.press_events.proofs.Shifting.{again_after, again_told, any_default}
use Rattle.press_events.proofs.events.Events.take_again.Goals as goal

pub returns-clause-told : goal.returns-clause-told
returns-clause-told c =
    let es : List Event = c.self.inside.events.items in
    let event : Event = c.args.event.now in
    let i = c.in_ok-place.place in
    let place : place_of event es ≡ Some i = ap (place_of event) (sym c.deref.ensures.value) ∙ sym c.in_ok-place.ensures.place in
    let lt : i < length es = subst (λ (es : List Event). i < length es) c.deref.ensures.value c.in_ok-place.ensures.within in
    let is : c.index-stood.result.now ≡ slice_index_or es i event = c.index-stood.ensures ∙ any_default es i c.index-stood.result.now event lt in
    let next : moment_next c.args.now (slice_index_or es i event) ≡ Some c.in_ok-time.time = ap (moment_next c.args.now) (sym is) ∙ sym c.next.ensures ∙ c.in_ok-time.was in
    let does : option_map (λ _. c.move_to.new.self) c.move_to.result ≡ move_event i c.in_ok-time.time (slice_index_or es i event).every es =
    c.move_to.ensures.does ∙ ap (move_event i c.in_ok-time.time c.index-stood.result.now.every) (sym c.self.view_is) ∙ ap (λ (e : Event). move_event i c.in_ok-time.time e.every es) is in
    rw (← c.self.view_is) (again_told i c.in_ok-time.time event c.args.now es place lt next c.move_to.result c.move_to.new.self does)

pub returns-clause-after : goal.returns-clause-after
returns-clause-after c =
    let es : List Event = c.self.inside.events.items in
    let event : Event = c.args.event.now in
    let i = c.in_ok-place.place in
    let place : place_of event es ≡ Some i = ap (place_of event) (sym c.deref.ensures.value) ∙ sym c.in_ok-place.ensures.place in
    let lt : i < length es = subst (λ (es : List Event). i < length es) c.deref.ensures.value c.in_ok-place.ensures.within in
    let is : c.index-stood.result.now ≡ slice_index_or es i event = c.index-stood.ensures ∙ any_default es i c.index-stood.result.now event lt in
    let next : moment_next c.args.now (slice_index_or es i event) ≡ Some c.in_ok-time.time = ap (moment_next c.args.now) (sym is) ∙ sym c.next.ensures ∙ c.in_ok-time.was in
    let does : option_map (λ _. c.move_to.new.self) c.move_to.result ≡ move_event i c.in_ok-time.time (slice_index_or es i event).every es =
    c.move_to.ensures.does ∙ ap (move_event i c.in_ok-time.time c.index-stood.result.now.every) (sym c.self.view_is) ∙ ap (λ (e : Event). move_event i c.in_ok-time.time e.every es) is in
    rw (← c.self.view_is) (again_after i c.in_ok-time.time event c.args.now es place lt next c.move_to.result c.move_to.new.self does)

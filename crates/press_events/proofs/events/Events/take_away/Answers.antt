use Rattle.std.proofs.Common.{◌≡◌, ◌∙◌, ◌<◌, ap, sym, subst, false, length, List, Some}
use Rattle.std.specs.Prelude.{remove}
use Rattle.press_events.specs.DueEvents.{place_of, take_event}
use Rattle.press_events.specs.Shifts.{comes_again}
use Rattle.press_events.specs.declared.event.Event.{Event}
use Rattle.press_events.proofs.Shifting.{gone}
use Rattle.press_events.proofs.events.Events.take_away.Goals as goal

pub returns-clause-after : goal.returns-clause-after
returns-clause-after c = λ now comes.
    let es : List Event = c.self.inside.events.items in
    let event : Event = c.args.event.now in
    let i = c.in-Some.place in
    let place : place_of event es ≡ Some i = ap (place_of event) (sym c.deref.ensures.value) ∙ sym c.in-Some.ensures.place in
    let lt : i < length es = subst (λ (es : List Event). i < length es) c.deref.ensures.value c.in-Some.ensures.within in
    subst (λ (v : List Event). comes_again event now v ≡ false → c.leave.new.self ≡ take_event event now v) c.self.view_is
    (λ stays. c.in_ok-went.ensures.ok ∙ ap (λ (v : List Event). remove v i) (sym c.self.view_is) ∙ sym (gone i event now es place lt stays)) comes

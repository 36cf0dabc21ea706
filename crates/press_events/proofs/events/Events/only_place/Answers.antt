use Rattle.std.proofs.Common.{◌≡◌, false, ◌∙◌, ap, sym, subst, List}
use Rattle.std.specs.Prelude.{IfSome, is_some, nat_le}
use Rattle.press_events.specs.DueEvents.{cancels, place_of}
use Rattle.press_events.specs.declared.event.Event.{Event}
use Rattle.press_events.specs.Marks.{count_of, mark}
use Rattle.press_events.specs.Shifts.{IsOnly, event_at, stands_alone}
use Rattle.press_events.proofs.Numbers.{none_covered}
use Rattle.press_events.proofs.Shifting.{at_most, beside_like, by_place, no_place, none_stands, only}
use Rattle.press_events.proofs.events.Events.only_place.Goals as goal

pub returns-clause-place : goal.returns-clause-place
returns-clause-place c =
    subst (λ (es : List Event). IfSome c.place_at.result (λ i. IsOnly c.args.hook.now c.args.arg.now i es)) c.self.view_is
    (only c.args.time c.args.hook.now c.args.arg.now c.self.inside.events.items c.self.inside.marks c.place_at.result
    (c.place_at.ensures.place ∙ ap (place_of (event_at c.args.time c.args.hook.now c.args.arg.now)) c.deref.ensures.value)
    c.self.invariant.1
    (at_most (count_of (mark c.args.arg.now) c.self.inside.marks) (ap (λ m. nat_le (count_of m c.self.inside.marks) 1) (sym c.mark-mark.ensures) ∙ sym c.is_single.ensures ∙ c.if-not-is_single.false)))

pub returns-then-not-is_single-clause-told : goal.returns-then-not-is_single-clause-told
returns-then-not-is_single-clause-told c =
    let es : List Event = c.self.inside.events.items in
    let counted = ap (λ n. nat_le n 1) (c.self.invariant.1 (mark c.args.arg.now)) ∙ ap (λ m. nat_le (count_of m c.self.inside.marks) 1) (sym c.mark-mark.ensures) ∙ sym c.is_single.ensures in
    subst (λ (v : List Event). false ≡ stands_alone c.args.time c.args.hook.now c.args.arg.now v) c.self.view_is
    (beside_like _ (is_some (place_of (event_at c.args.time c.args.hook.now c.args.arg.now) es)) (counted ∙ c.if-not-is_single.true))

pub returns-then-not-has-clause-told : goal.returns-then-not-has-clause-told
returns-then-not-has-clause-told c =
    let es : List Event = c.self.inside.events.items in
    let none : cancels c.args.hook.now c.args.arg.now es ≡ false =
    sym (none_covered c.args.hook.now c.args.arg.now es c.self.inside.marks c.mark-mark.result c.has.result c.self.invariant.1 c.mark-mark.ensures c.has.ensures c.if-not-has.true) ∙ c.if-not-has.true in
    subst (λ (v : List Event). false ≡ stands_alone c.args.time c.args.hook.now c.args.arg.now v) c.self.view_is
    (none_stands _ (is_some (place_of (event_at c.args.time c.args.hook.now c.args.arg.now) es)) (no_place c.args.time c.args.hook.now c.args.arg.now es none))

pub returns-clause-told : goal.returns-clause-told
returns-clause-told c =
    let es : List Event = c.self.inside.events.items in
    let counted = ap (λ n. nat_le n 1) (c.self.invariant.1 (mark c.args.arg.now)) ∙ ap (λ m. nat_le (count_of m c.self.inside.marks) 1) (sym c.mark-mark.ensures) ∙ sym c.is_single.ensures in
    subst (λ (v : List Event). is_some c.place_at.result ≡ stands_alone c.args.time c.args.hook.now c.args.arg.now v) c.self.view_is
    (by_place _ (is_some (place_of (event_at c.args.time c.args.hook.now c.args.arg.now) es)) (is_some c.place_at.result) (counted ∙ c.if-not-is_single.false)
    (ap is_some (c.place_at.ensures.place ∙ ap (place_of (event_at c.args.time c.args.hook.now c.args.arg.now)) c.deref.ensures.value)))

use Rattle.std.proofs.Common.{◌≡◌, ◌∙◌, ◌<◌, sym, subst, true, false, length, List, arith}
use Rattle.std.specs.Prelude.{remove, slice_index_or}
use Rattle.press_events.specs.DueEvents.{stands}
use Rattle.press_events.specs.declared.event.Event.{Event}
use Rattle.press_events.proofs.Shifting.{move_free, move_stands}
use Rattle.press_events.proofs.events.Events.move_to.Goals as goal

pub returns-then-stands_beside-clause-does : goal.returns-then-stands_beside-clause-does
returns-then-stands_beside-clause-does c =
    let es : List Event = c.self.inside.events.items in
    let lt : c.args.place < length es = omega arith in
    rw (← c.self.view_is) (move_stands es c.args.place c.args.time c.args.every lt
    (λ d. subst (λ (xs : List Event). stands (record (slice_index_or xs c.args.place d) { time = c.args.time }) (remove xs c.args.place) ≡ true) c.deref.ensures.value (sym (c.stands_beside.ensures d) ∙ c.if-stands_beside.true)))

pub returns-clause-does : goal.returns-clause-does
returns-clause-does c =
    let es : List Event = c.self.inside.events.items in
    let lt : c.args.place < length es = omega arith in
    rw (← c.self.view_is) (move_free es c.args.place c.args.time c.args.every c.give_time.new.self lt
    (λ d. subst (λ (xs : List Event). stands (record (slice_index_or xs c.args.place d) { time = c.args.time }) (remove xs c.args.place) ≡ false) c.deref.ensures.value (sym (c.stands_beside.ensures d) ∙ c.if-stands_beside.false))
    (rw c.self.view_is c.give_time.ensures.after))

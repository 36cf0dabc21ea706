use Rattle.std.proofs.Common.{◌≡◌, ◌∙◌, ◌<◌, ◌+◌, ◌++◌, ap, sym, subst, arith, length, List}
use Rattle.std.specs.Prelude.{insert, vec_capacity}
use Rattle.press_events.specs.Marks.{count_of, mark, one}
use Rattle.press_events.specs.DueEvents.{IsSchedule}
use Rattle.press_events.specs.declared.event.Event.{Event}
use Rattle.press_events.proofs.Numbers.{as_many, covers_put}
use Rattle.press_events.proofs.events.Events.come_back.Goals as goal

pub add_in-requires-clause-room : goal.add_in-requires-clause-room
add_in-requires-clause-room c =
    let all : length c.self.inside.events.items < vec_capacity c.args.marks = subst (λ (es : List Event). length es < vec_capacity c.args.marks) (sym c.self.view_is) c.requires.2.1 in
    let many = as_many c.self.inside.events.items c.self.inside.marks c.self.invariant.1 in
    omega arith

pub invariant_of-self : goal.invariant_of-self
invariant_of-self c =
    let all : c.append.new.self.items ≡ c.self.inside.events.items = c.in-Ok.ensures.items ∙ ap (λ (xs : List Event). xs ++ c.self.inside.events.items) c.requires.1.0 in
    let back : c.insert.new.self.items ≡ insert c.self.inside.events.items c.args.place c.args.event =
    c.in-Ok-insert.ensures.items ∙ ap (λ (xs : List Event). insert xs c.args.place c.args.event) all in
    rw back (
      subst (λ (es : List Event). IsSchedule (insert es c.args.place c.args.event)) (sym c.self.view_is) c.requires.0.1,
      covers_put c.args.event c.self.inside.events.items c.args.place c.self.inside.marks c.add_in.new.self c.self.invariant.1
          (λ x. c.add_in.ensures x ∙ ap (λ m. count_of x c.self.inside.marks + one x m) (c.mark.ensures ∙ ap mark c.as_str.ensures)),
    )

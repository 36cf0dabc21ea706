use Rattle.std.proofs.Common.{◌∙◌, ◌≡◌, ◌++◌, ap, List, ℕ}
use Rattle.press_events.proofs.Numbers.{rises_with}
use Rattle.press_events.proofs.marks.Marks.add_in.Goals as goal

pub invariant_of-self : goal.invariant_of-self
invariant_of-self c =
    let all : c.append.new.self.items ≡ c.self.inside.marks.items = c.in-Ok.ensures.items ∙ ap (λ (xs : List ℕ). xs ++ c.self.inside.marks.items) c.requires.empty in
    rw c.in-Ok-insert.ensures.items (rises_with c.self.inside.marks.items c.append.new.self.items c.deref.result.now c.place_in-place.result c.args.mark all c.deref.ensures.value c.self.invariant
    c.place_in-place.ensures.within c.place_in-place.ensures.below c.place_in-place.ensures.above)

use Rattle.std.proofs.Common.{◌≡◌, ◌<◌, ◌+◌, ◌-◌, ℕ, List, length, get_or, subst, refl, true, false}
use Rattle.press_events.specs.Marks.{IsTwice}
use Rattle.press_events.proofs.Numbers.{hit, missed, told_single}
use Rattle.press_events.proofs.marks.Marks.is_single.Goals as goal

pub returns-in-Ok : goal.returns-in-Ok
returns-in-Ok c =
    let h = hit c.args.mark c.self.inside.marks.items c.deref.result.now c.in-Ok.place c.deref.ensures.value c.in-Ok.ensures.position c.self.invariant in
    rw (← c.self.view_is) (told_single c.self.inside.marks.items c.in-Ok.place c.self.invariant h.0 c.args.mark h.1 c.is_alone.result
    (subst (λ (xs : List ℕ). c.is_alone.result ≡ true → 0 < c.in-Ok.place → (d : ℕ) → get_or xs (c.in-Ok.place - 1) d ≡ get_or xs c.in-Ok.place d → ⊥) c.deref-in-Ok.ensures.value c.is_alone.ensures.before)
    (subst (λ (xs : List ℕ). c.is_alone.result ≡ true → c.in-Ok.place + 1 < length xs → (d : ℕ) → get_or xs (c.in-Ok.place + 1) d ≡ get_or xs c.in-Ok.place d → ⊥) c.deref-in-Ok.ensures.value c.is_alone.ensures.behind)
    (subst (λ (xs : List ℕ). c.is_alone.result ≡ false → (d : ℕ) → IsTwice xs c.in-Ok.place d) c.deref-in-Ok.ensures.value c.is_alone.ensures.twice))

pub returns-in-Err : goal.returns-in-Err
returns-in-Err c =
    let h = missed c.args.mark c.self.inside.marks.items c.deref.result.now c.in-Err.field-0 c.deref.ensures.value c.in-Err.ensures.position c.self.invariant in
    rw (← c.self.view_is, h) refl

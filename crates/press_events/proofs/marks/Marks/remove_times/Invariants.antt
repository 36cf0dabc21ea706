use Rattle.std.proofs.Common.{◌≡◌, ℕ, ◌-◌, cond, nat_eq}
use Rattle.press_events.specs.Marks.{count_of}
use Rattle.press_events.proofs.marks.Marks.remove_times.Given as goal

abbrev pub invariant-loop : goal.invariant-loop
invariant-loop l = (x : ℕ) → count_of x l.self ≡ count_of x l.initial.self - cond (nat_eq x l.mark) l.counter 0

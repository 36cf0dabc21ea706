-- Numbers of arguments, by which it is seen without the events that none has an argument.
use Rattle.std.specs.Prelude.{◌≡◌, ◌<◌, ◌⊎◌, ℕ, ◌+◌, ◌-◌, ◌*◌, ◌%◌, ◌^◌, List, length, slice_index_or, cond, nat_eq}
use Rattle.std.specs.List.{count_by, fold}
use Rattle.press_events.specs.declared.event.Event.{Event}

-- the number of an argument; others may have it too
abbrev pub with_byte : ℕ → ℕ → ℕ
with_byte m b = (m * 31 + b) % 2 ^ 32

abbrev pub mark : List ℕ → ℕ
mark arg = fold with_byte 0 arg

-- how often a number is among some
abbrev pub count_of : ℕ → List ℕ → ℕ
count_of x marks = count_by (nat_eq x) marks

-- and at one of them
abbrev pub one : ℕ → ℕ → ℕ
one x y = cond (nat_eq x y) 1 0

-- each number as often as an event has it
abbrev pub Covers : List ℕ → List Event → Type 0
Covers marks events = (x : ℕ) → count_by (λ e. nat_eq x (mark e.arg)) events ≡ count_of x marks

-- whether the number at a place stands beside itself
abbrev pub IsTwice : List ℕ → ℕ → ℕ → Type 0
IsTwice marks place d =
    ((0 < place) × (slice_index_or marks (place - 1) d ≡ slice_index_or marks place d))
    ⊎ ((place + 1 < length marks) × (slice_index_or marks (place + 1) d ≡ slice_index_or marks place d))

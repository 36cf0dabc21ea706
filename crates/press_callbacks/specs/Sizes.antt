-- What is left of some room behind so many bytes, where they fit in (own).
use Rattle.std.specs.Prelude.{ℕ, ◌-◌, Option, Some, None, leb, cond}

abbrev pub left_of : ℕ → ℕ → Option ℕ
left_of room n = cond (leb n room) (Some (room - n)) None

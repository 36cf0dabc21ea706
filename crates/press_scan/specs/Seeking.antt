-- Places that are looked for one after the other, as computations.
use Rattle.std.specs.Prelude.{ℕ, zero, suc, ◌+◌, Bool, true, false, Option, Some, None}

-- the first place at or after `from` at which the test holds, of so many; where there is none, the one after them
abbrev pub first_from : (ℕ → Bool) → ℕ → ℕ → ℕ
first_from test from zero = from
first_from test from (suc n) = elim (test from) [ true ↦ from | false ↦ first_from test (from + 1) n ]

-- the place, where the test holds there
abbrev pub found_at : (ℕ → Bool) → ℕ → Option ℕ
found_at test place = elim (test place) [ true ↦ Some place | false ↦ None ]

-- the first place of so many, where there is one
abbrev pub first_place : (ℕ → Bool) → ℕ → ℕ → Option ℕ
first_place test from n = found_at test (first_from test from n)

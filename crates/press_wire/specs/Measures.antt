-- How long a spelling is, as far as it matters.
use Rattle.std.specs.Prelude.{◌≡◌, ℕ, ◌<◌, ◌≤◌, Option, Some, None}
use Rattle.press_wire.specs.Spelling.{longest}

abbrev pub MeasuresWell : ℕ → Option ℕ → ℕ → Type 0
MeasuresWell most None n = longest < n
MeasuresWell most (Some len) n = (len ≡ n) × (len ≤ most)

-- the length, or None where it is too long
abbrev pub Measures : Option ℕ → ℕ → Type 0
Measures len n = MeasuresWell longest len n

-- What is taken from a reader and given to a writer, where their bytes are known (own).
use Rattle.std.specs.Prelude.{ℕ, ◌<◌, ◌≤◌, List, length, take, Option}
use Rattle.std.specs.Io.KnownBytes.{Consumes, Appends}

-- at most n bytes were taken
abbrev pub TakesAtMost : Option (List ℕ) → Option (List ℕ) → ℕ → Type 0
TakesAtMost old new n = (bytes : List ℕ) × Consumes old new bytes × (length bytes ≤ n)

-- a front of the bytes was put at the end
abbrev pub AppendsFront : Option (List ℕ) → Option (List ℕ) → List ℕ → Type 0
AppendsFront old new bytes = (n : ℕ) × Appends old new (take n bytes)

-- a front of the bytes was, and not all of them
abbrev pub AppendsProperFront : Option (List ℕ) → Option (List ℕ) → List ℕ → Type 0
AppendsProperFront old new bytes = (n : ℕ) × (n < length bytes) × Appends old new (take n bytes)

-- Lines that go out at once, or are lost (own).
use Rattle.std.specs.Prelude.{ℕ, ◌≡◌, ◌+◌, ◌<◌, ◌⊎◌, ◌++◌, min, List, Option, codes, decimal}
use Rattle.std.specs.Io.KnownBytes.{Appends}
use Rattle.press_text.specs.Streams.{AppendsProperFront}

-- so many more are counted as lost
abbrev pub one_more : ℕ → ℕ
one_more lost = min (lost + 1) 18446744073709551615

-- the writer failed, or took nothing, and what is out is a front of the line, and not all of it
abbrev pub StopsWithin : {O : Type 0} → (O → Option (List ℕ)) → (O → O → Type 0) → List ℕ → O → O → Type 0
StopsWithin contents fails line old new = AppendsProperFront (contents old) (contents new) line × ((before : _) × fails before new)

-- a line is out whole, or it is counted as lost, and that only where the writer stops within it
abbrev pub Puts : {O : Type 0} → (O → Option (List ℕ)) → (O → O → Type 0) → List ℕ → O → O → ℕ → ℕ → Type 0
Puts contents fails line old new lost after =
    ((after ≡ lost) × Appends (contents old) (contents new) line) ⊎ ((after ≡ one_more lost) × StopsWithin contents fails line old new)

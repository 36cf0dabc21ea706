-- The entries of a map of attributes: each value under its key.
use Rattle.std.specs.Prelude.{◌≡◌, ⊤, ℕ, ◌<◌, List, [], ◌∷◌, map}
use Rattle.press_scan.specs.declared.att.Att.{Att}
use Rattle.press_scan.specs.declared.att_key.AttKey.{AttKey}
use Rattle.press_scan.specs.declared.att_key.AttKey.TheVariants.{Name, Place}

-- an entry as an attribute
abbrev pub att_of : AttKey × List ℕ → Att
att_of e = record { key = e.0; value = e.1 }

abbrev pub atts_of : List (AttKey × List ℕ) → List Att
atts_of es = map att_of es

-- a number is below the next one
abbrev pub IsBefore : ℕ → AttKey → Type 0
IsBefore next (Name n) = ⊤
IsBefore next (Place k) = k < next

-- each number that is given already is below the next one
abbrev pub AreBefore : ℕ → List (AttKey × List ℕ) → Type 0
AreBefore next [] = ⊤
AreBefore next (e ∷ es) = IsBefore next e.0 × AreBefore next es

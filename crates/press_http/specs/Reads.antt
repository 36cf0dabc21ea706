-- Reads of a connection, one after the other (own): none is made where nothing more is wanted, and none after one that failed or that found the end.
use Rattle.std.specs.Prelude.{◌≡◌, ℕ, List, [], ◌∷◌, ◌++◌, Option, None, Some}
use Rattle.std.specs.Io.KnownBytes.{Consumes, Keeps}

-- the bytes that a read gave; one that failed gave none
abbrev pub bytes_of_read : Option (List ℕ) → List ℕ
bytes_of_read None = []
bytes_of_read (Some bytes) = bytes

-- what such a read does to bytes that are known
abbrev pub Took : Option (List ℕ) → Option (List ℕ) → Option (List ℕ) → Type 0
Took old None new = Keeps old new
Took old (Some bytes) new = Consumes old new bytes

-- all that reads gave, the last of them first
abbrev pub seen_by : List (Option (List ℕ)) → List ℕ
seen_by [] = []
seen_by (read ∷ earlier) = seen_by earlier ++ bytes_of_read read

-- the last one failed
abbrev pub HasFailed : List (Option (List ℕ)) → Type 0
HasFailed [] = ⊥
HasFailed (None ∷ earlier) = Unit {0}
HasFailed (Some bytes ∷ earlier) = ⊥

-- the last one found the end
abbrev pub HasEnded : List (Option (List ℕ)) → Type 0
HasEnded [] = ⊥
HasEnded (None ∷ earlier) = ⊥
HasEnded (Some [] ∷ earlier) = Unit {0}
HasEnded (Some (b ∷ bytes) ∷ earlier) = ⊥

-- there was none, or the last one gave bytes
abbrev pub MayGoOn : List (Option (List ℕ)) → Type 0
MayGoOn [] = Unit {0}
MayGoOn (None ∷ earlier) = ⊥
MayGoOn (Some [] ∷ earlier) = ⊥
MayGoOn (Some (b ∷ bytes) ∷ earlier) = Unit {0}

-- they lead from one state of a reader to another, each made where that may go on and what was seen wants more
abbrev pub Reads : {R : Type 0} → (R → Option (List ℕ) → R → Type 0) → (List ℕ → Type 0) → List (Option (List ℕ)) → R → R → Type 0
Reads gives Wants [] first now = first ≡ now
Reads {R} gives Wants (read ∷ earlier) first now =
    (before : R) × Reads gives Wants earlier first before × MayGoOn earlier × Wants (seen_by earlier) × gives before read now

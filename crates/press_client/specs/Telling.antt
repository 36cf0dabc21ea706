-- What a node tells of its log, by questions each of which is asked behind all that was told before
-- (own).
use Rattle.std.specs.Prelude.{ℕ, ◌≡◌, ◌⊎◌, ◌<◌, ◌≤◌, List, [], ◌∷◌, ◌++◌, length, take, Result, Ok, Err}
use Rattle.press_client.specs.Exporting.{files_of}
use Rattle.press_client.specs.declared.entry.LogEntry.{LogEntry}
use Rattle.press_client.specs.declared.log.LogFault.{LogFault}
use Rattle.press_client.specs.declared.log.LogFault.TheVariants.{NoLog, NoMemory}
use Rattle.press_client.specs.declared.log.Piece.{Piece}
use Rattle.press_client.specs.declared.site_files.Limits.{Limits}
use Rattle.press_client.specs.declared.site_files.SiteFile.{SiteFile}

-- what a first piece and those behind it hold, the last of them in front
abbrev pub entries_of : Piece → List Piece → List LogEntry
entries_of first [] = first.entries.items
entries_of first (piece ∷ earlier) = entries_of first earlier ++ piece.entries.items

-- some of what had been applied by the first piece is still to be told
abbrev pub IsMissing : Piece → List Piece → Type 0
IsMissing first more = length (entries_of first more) < first.applied

-- that a question behind so many entries leads from one state of a node to another, and what comes
-- of it
abbrev pub Question : Type 0 → Type 1
Question Node = Node → ℕ → Result Piece LogFault → Node → Type 0

-- questions lead from one state to another, each but the first where something is missing
abbrev pub Asks : {Node : Type 0} → Question Node → Piece → List Piece → Node → Node → Type 0
Asks tells first [] old new = tells old 0 (Ok first) new
Asks {Node} tells first (piece ∷ earlier) old new =
    (before : Node) × Asks tells first earlier old before × IsMissing first earlier × tells before (length (entries_of first earlier)) (Ok piece) new

-- the files of what had been applied by the first piece, once all of that is told
abbrev pub IsExport : {Node : Type 0} → Question Node → Limits → Node → Node → List SiteFile → Type 0
IsExport tells limits old new files =
    (first : Piece) × (more : List Piece) × Asks tells first more old new
    × (first.applied ≤ length (entries_of first more)) × (files ≡ files_of limits (take first.applied (entries_of first more)))

-- a question has no answer: the first, or one behind others
abbrev pub IsUnanswered : {Node : Type 0} → Question Node → LogFault → Node → Node → Type 0
IsUnanswered {Node} tells fault old new =
    tells old 0 (Err fault) new
    ⊎ ((first : Piece) × (more : List Piece) × (before : Node) × Asks tells first more old before
    × IsMissing first more × tells before (length (entries_of first more)) (Err fault) new)

-- the last piece holds nothing, though something is missing
abbrev pub HoldsNothing : {Node : Type 0} → Question Node → Node → Node → Type 0
HoldsNothing tells old new =
    (first piece : Piece) × (earlier : List Piece) × Asks tells first (piece ∷ earlier) old new × (piece.entries.items ≡ [])

-- why nothing is exported
abbrev pub StopsBy : {Node : Type 0} → Question Node → LogFault → Node → Node → Type 0
StopsBy tells fault old new = (fault ≡ NoMemory) ⊎ (IsUnanswered tells fault old new ⊎ ((fault ≡ NoLog) × HoldsNothing tells old new))

use Rattle.std.proofs.Common.{◌≡◌, ◌⊎◌, ◌-◌, ◌≤◌, ◌++◌, [], List, ℕ, length}
use Rattle.std.specs.Prelude.{Option}
use Rattle.std.specs.Io.KnownBytes.{Consumes}
use Rattle.press_http.specs.Bodies.{WantsBody}
use Rattle.press_http.specs.Reads.{MayGoOn, Reads, seen_by}
use Rattle.press_http.proofs.body.read_body.Given as goal

abbrev pub invariant-loop-body : goal.invariant-loop-body
invariant-loop-body g l =
    (reads : List (Option (List ℕ))) × Reads g.R.Pieces.gives (WantsBody l.count l.fn.rest) reads l.initial.reader l.reader × MayGoOn reads
    × Consumes (g.R.Pieces.left l.initial.reader) (g.R.Pieces.left l.reader) (seen_by reads) × (length (seen_by reads) ≤ l.count) × (l.body.items ≡ l.fn.rest ++ seen_by reads)
    × ((seen_by reads ≡ []) ⊎ (length l.body.items ≤ l.count))

abbrev pub decreases-loop-body : goal.decreases-loop-body
decreases-loop-body g l = l.count - length l.body.items

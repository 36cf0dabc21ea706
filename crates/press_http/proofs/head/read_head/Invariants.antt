use Rattle.std.proofs.Common.{◌≡◌, ◌-◌, ◌≤◌, ℕ, List, length}
use Rattle.std.specs.Prelude.{Option}
use Rattle.std.specs.Io.KnownBytes.{Consumes}
use Rattle.press_http.specs.Heads.{WantsHead}
use Rattle.press_http.specs.Reads.{MayGoOn, Reads, seen_by}
use Rattle.press_http.proofs.head.read_head.Given as goal

abbrev pub invariant-loop-buf : goal.invariant-loop-buf
invariant-loop-buf g l =
    (reads : List (Option (List ℕ))) × Reads g.R.Pieces.gives WantsHead reads l.initial.reader l.reader × MayGoOn reads
    × Consumes (g.R.Pieces.left l.initial.reader) (g.R.Pieces.left l.reader) (seen_by reads) × (l.buf.items ≡ seen_by reads)
    × (length l.buf.items ≤ 8192) × (length l.headers ≡ 32)

abbrev pub decreases-loop-buf : goal.decreases-loop-buf
decreases-loop-buf g l = 8192 - length l.buf.items

use Rattle.std.proofs.Common.{◌≡◌, ◌≤◌, ◌+◌, drop}
use Rattle.press_store.specs.Shown.{shown_votes}
use Rattle.press_store.proofs.Decoded.{behind}
use Rattle.press_store.proofs.vote.decode.Given as goal

abbrev pub invariant-loop-row : goal.invariant-loop-row
invariant-loop-row l =
    (behind l.votes (shown_votes l.least l.last (drop l.row-index l.rows)) ≡ shown_votes l.fn.first (l.fn.first + 15) l.rows) × (1 ≤ l.least) × (l.last ≡ l.fn.first + 15) × (l.last ≤ 1000000)

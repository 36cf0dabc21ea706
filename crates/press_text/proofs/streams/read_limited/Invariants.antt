use Rattle.std.proofs.Common.{◌+◌, ◌-◌, ◌≤◌, length}
use Rattle.std.specs.Io.KnownBytes.{Consumes}
use Rattle.press_text.proofs.streams.read_limited.Given as goal

abbrev pub invariant-loop-out : goal.invariant-loop-out
invariant-loop-out g l = record {
  took : Consumes (g.R.Read.remaining l.initial.reader) (g.R.Read.remaining l.reader) l.out.items;
  room : length l.out.items ≤ l.limit + 1;
}

abbrev pub decreases-loop-out : goal.decreases-loop-out
decreases-loop-out g l = l.limit + 1 - length l.out.items

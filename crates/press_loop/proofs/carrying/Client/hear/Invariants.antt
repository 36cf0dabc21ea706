use Rattle.std.proofs.Common.{ℕ, ◌≡◌, ◌++◌, List, length}
use Rattle.std.specs.Io.KnownBytes.{Consumes}
use Rattle.press_loop.specs.Carrying.{with_more}
use Rattle.press_loop.proofs.carrying.Client.hear.Given as goal

abbrev pub decreases-loop-left : goal.decreases-loop-left
decreases-loop-left g l = length l.left

abbrev pub invariant-loop-left : goal.invariant-loop-left
invariant-loop-left g l = record {
  heard : (bytes : List ℕ) × Consumes (g.S.Read.remaining l.initial.self.stream) (g.S.Read.remaining l.self.stream) bytes
      × (l.self.front ≡ with_more l.initial.self.front bytes) × (bytes ++ l.left ≡ l.written);
  request : l.self.request.now ≡ l.initial.self.request.now;
}

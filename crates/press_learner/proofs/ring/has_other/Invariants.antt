use Rattle.std.proofs.Common.{ℕ, ◌<◌, ◌≡◌, ◌≢◌, ◌%◌, None, get_or}
use Rattle.press_learner.proofs.ring.has_other.Given as goal

abbrev pub invariant-loop-place : goal.invariant-loop-place
invariant-loop-place l = (i : ℕ) → i < l.place → i % 64 ≢ l.slot % 64 → get_or l.ring i None ≡ None

use Rattle.std.specs.Prelude.{ℕ, ◌≡◌, ◌<◌, ◌≤◌, ◌⊎◌, IfSome, false, length, slice_get}
use Rattle.press_cluster.specs.Going.{AreKept, HasSameWays, fresh_of, is_ready, owed_at, waiting_at}
use Rattle.press_cluster.proofs.lanes.Lanes.ready.Given as goal

abbrev pub invariant-loop-place : goal.invariant-loop-place
invariant-loop-place l =
    ((i : ℕ) → AreKept (owed_at l.initial.self i) (owed_at l.self i))
    × HasSameWays l.self l.initial.self
    × ((i : ℕ) → i < l.place → IfSome (slice_get l.self.all.items i) (λ lane. is_ready l.now lane ≡ false))
    × (length l.self.all.items ≡ length l.initial.self.all.items)
    × ((i : ℕ) → (waiting_at l.self i ≡ waiting_at l.initial.self i) ⊎ (waiting_at l.self i ≡ fresh_of l.now (waiting_at l.initial.self i)))
    × ((i : ℕ) → l.place ≤ i → waiting_at l.self i ≡ waiting_at l.initial.self i)

-- Messages that wait: those that are too old, and those that go into a batch.
use Rattle.std.proofs.Common.{ℕ, ◌≡◌, true, false, List, [], ◌∷◌, drop, refl, rules}
use Rattle.press_cluster.specs.Going.{fresh_of, is_stale}
use Rattle.press_cluster.specs.declared.lanes.Waiting.{Waiting}

-- one that isn't stale is left
pub fresh_stays : (now : ℕ) (waiting : List Waiting) → is_stale now waiting ≡ false → waiting ≡ fresh_of now waiting
fresh_stays now [] fresh = refl
fresh_stays now (first ∷ rest) fresh = search rules

-- one that is stale goes
pub stale_goes : (now : ℕ) (waiting : List Waiting) → is_stale now waiting ≡ true → fresh_of now (drop 1 waiting) ≡ fresh_of now waiting
stale_goes now [] stale = refl
stale_goes now (first ∷ rest) stale = search rules

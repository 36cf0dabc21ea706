-- Kits that are alike, one by one, while nothing is read.
use Rattle.std.proofs.Common.{◌≡◌, ℕ, List, [], ◌∷◌, ◌++◌, map, arith}
use Rattle.std.specs.Prelude.{Option}
use Rattle.std.proofs.KnownBytes.{Consumes-nil}
use Rattle.press_text.specs.Streams.{TakesAtMost}
use Rattle.press_callbacks.specs.Kits.{KitView}
use Rattle.press_world.specs.Starts.{AreKit}

-- one that was pushed
pub pushed : {K : Type 0} (view : K → KitView) (kit : KitView) (old new : List K) (k : K) → new ≡ old ++ k ∷ [] → AreKit kit (map view old) → view k ≡ kit → AreKit kit (map view new)
pushed {K} view kit old new k is alike same = rw is (go old alike)
  where
    go : (ks : List K) → AreKit kit (map view ks) → AreKit kit (map view (ks ++ k ∷ []))
    go [] a = (same, tt)
    go (x ∷ ks) a = (a.0, go ks a.1)

-- nothing was taken
pub untaken : (remaining : Option (List ℕ)) (n : ℕ) → TakesAtMost remaining remaining n
untaken remaining n = ([], Consumes-nil remaining, omega arith)

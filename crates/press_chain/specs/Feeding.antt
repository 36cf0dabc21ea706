-- What a hasher is fed (own).
use Rattle.std.specs.Prelude.{ℕ, List, ◌++◌}
use Rattle.sha2.specs.Hashers.{Holds256}
use Rattle.sha2.specs.declared.Sha256.{Sha256}

-- whatever message it held, it holds these bytes behind it
abbrev pub Feeds : Sha256 → Sha256 → List ℕ → Type 0
Feeds old new bytes = (message : List ℕ) → Holds256 old message → Holds256 new (message ++ bytes)

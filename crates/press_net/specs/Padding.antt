-- The bytes of a request that came, and what is put behind them to see how many more it wants
-- (own).
use Rattle.std.specs.Prelude.{ℕ, ◌≡◌, ◌≤◌, ◌+◌, ◌⊎◌, List, [], ◌++◌, length, Option, None, Some}
use Rattle.press_net.specs.declared.request_buffer.Padded.{Padded}

-- a read gives the front of what came; after all of it some zeros, and then what is wanted is at
-- most one more than stood there
abbrev pub Pads : Padded → Option (List ℕ) → Padded → Type 0
Pads old None new = ⊥
Pads old (Some given) new =
    ((old.rest.now ≡ given ++ new.rest.now) × (new.zeros ≡ old.zeros) × (new.wanted ≡ old.wanted))
    ⊎ ((old.rest.now ≡ []) × (new.rest.now ≡ []) × (new.zeros ≤ old.zeros + length given) × (new.wanted ≤ old.zeros + 1))

-- The last slot with a vote (own).
use Rattle.std.specs.Prelude.{◌≡◌, ◌<◌, ℕ, List, [], ◌∷◌, Option, None, Some, option_map, IsSome}
use Rattle.sqlite.specs.Order.{Row, column}
use Rattle.press_wire.specs.Ranges.{last_slot}
use Rattle.press_acceptor.specs.StoreMap.{StoreMap, vote_of}
use Rattle.press_store.specs.Shown.{number_in}

-- no slot behind it has a vote; behind None stand all slots
abbrev pub NoVoteBehind : StoreMap → Option ℕ → Type 0
NoVoteBehind store None = (slot : ℕ) → vote_of store slot ≡ None
NoVoteBehind store (Some last) = (slot : ℕ) → last < slot → vote_of store slot ≡ None

-- the slot has a vote
abbrev pub HasVote : StoreMap → Option ℕ → Type 0
HasVote store None = Unit {0}
HasVote store (Some slot) = IsSome (vote_of store slot)

-- the greatest slot with a vote, or None, where no slot has one
abbrev pub IsLastVote : StoreMap → Option ℕ → Type 0
IsLastVote store last = HasVote store last × NoVoteBehind store last

-- the slot that the query on the last vote shows: none, one, or damaged
abbrev pub last_in : List Row → Option (Option ℕ)
last_in [] = Some None
last_in (v ∷ []) = option_map Some (number_in 1 last_slot (column v 0))
last_in (v ∷ w ∷ more) = None

-- What a ring stands for: 64 places for each member, one member's after another's, in which the 64 slots of the window come round.
use Rattle.std.specs.Prelude.{◌≡◌, ℕ, zero, suc, ◌+◌, ◌-◌, ◌*◌, ◌/◌, ◌%◌, ◌<◌, ◌&&◌, ◌≢◌, nat_le, Bool, IsSome, List, length, slice_index_or, slice_set, Option, None, Some}
use Rattle.std.specs.FinMap as map
use Rattle.std.specs.FinMap.{FinMap}
use Rattle.press_wire.specs.declared.vote.Vote.{Vote}
use Rattle.press_learner.specs.Kept.{KeptVotes, is_in_window, place_cmp}

-- the place of a member's vote for a slot: slots that are 64 apart have one place
unfoldable pub place_of : ℕ → ℕ → ℕ
place_of slot member = (member - 1) * 64 + slot % 64

-- the vote at that place
abbrev pub vote_in_ring : List (Option Vote) → ℕ → ℕ → Option Vote
vote_in_ring ring slot member = slice_index_or ring (place_of slot member) None

-- it is one of the members, and one of the 64 slots after those applied
abbrev pub has_place : ℕ → ℕ → ℕ → ℕ → Bool
has_place members applied slot member = is_in_window applied slot && (nat_le 1 member && nat_le member members)

-- no room yet, or room for all members
abbrev pub HasRoom : ℕ → List (Option Vote) → Type 0
HasRoom members ring = 0 < length ring → length ring ≡ 64 * members

-- the same votes are at the same places
abbrev pub IsAlike : List (Option Vote) → List (Option Vote) → Type 0
IsAlike ring more = (place : ℕ) → slice_index_or more place None ≡ slice_index_or ring place None

-- ---- as kept votes

-- the slot and the member that a number stands for, the slots of the window counted for one member after another
unfoldable pub slot_and_member_of : ℕ → ℕ → ℕ × ℕ
slot_and_member_of applied i = (applied + 1 + i % 64, 1 + i / 64)

abbrev pub with_perhaps : FinMap place_cmp Vote → ℕ × ℕ → Option Vote → FinMap place_cmp Vote
with_perhaps votes place None = votes
with_perhaps votes place (Some vote) = map.insert votes place vote

-- the votes for the first so many of these
unfoldable pub votes_to : ℕ → ℕ → List (Option Vote) → FinMap place_cmp Vote
votes_to zero applied ring = map.empty
votes_to (suc n) applied ring = with_perhaps (votes_to n applied ring) (slot_and_member_of applied n) (vote_in_ring ring (slot_and_member_of applied n).0 (slot_and_member_of applied n).1)

-- the votes that a ring of so many members holds once so many slots are applied
unfoldable pub votes_in : ℕ → ℕ → List (Option Vote) → FinMap place_cmp Vote
votes_in members applied ring = votes_to (64 * members) applied ring

abbrev pub kept_in : ℕ → ℕ → List (Option Vote) → KeptVotes
kept_in members applied ring = record { members = members; votes = votes_in members applied ring; applied = applied }

-- ---- a slot's places

-- the first so many members' places for the slot are empty
unfoldable pub without_slot_votes : ℕ → ℕ → List (Option Vote) → List (Option Vote)
without_slot_votes zero slot ring = ring
without_slot_votes (suc n) slot ring = slice_set (without_slot_votes n slot ring) (place_of slot (suc n)) None

-- a vote is at a place that isn't one of the slot's
abbrev pub HasOther : List (Option Vote) → ℕ → Type 0
HasOther ring slot = (place : ℕ) × (place % 64 ≢ slot % 64) × IsSome (slice_index_or ring place None)

-- the places that aren't the slot's are empty
abbrev pub HasNoOther : List (Option Vote) → ℕ → Type 0
HasNoOther ring slot = (place : ℕ) → place % 64 ≢ slot % 64 → slice_index_or ring place None ≡ None

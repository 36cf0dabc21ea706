-- Which value is chosen for the next slot, by the kept votes (Paxos Made Simple, 2.1: "a single value is chosen by a majority of acceptors"; 2.3).
use Rattle.std.specs.Prelude.{ℕ, zero, suc, ◌*◌, ◌≡◌, ◌<◌, ◌≤◌, nat_lt, Bool, false, Option, None, Some, List, [], ◌∷◌, if◌then◌else◌}
use Rattle.std.specs.List.{count_by, range_with_len, list_any}
use Rattle.std.specs.FinMap as map
use Rattle.press_apply.specs.declared.value.Value.{Value}
use Rattle.press_wire.specs.Ballots.{is_same}
use Rattle.press_wire.specs.declared.ballot.Ballot.{Ballot}
use Rattle.press_wire.specs.declared.vote.Vote.{Vote}
use Rattle.press_learner.specs.Kept.{KeptVotes, vote_at, next_slot, after_next_slot}

-- it is a vote of the ballot
abbrev pub has_ballot : Option Vote → Ballot → Bool
has_ballot None ballot = false
has_ballot (Some vote) ballot = is_same vote.ballot ballot

-- how many members have a kept vote of the ballot for the slot
abbrev pub ballot_count : KeptVotes → ℕ → Ballot → ℕ
ballot_count k slot ballot = count_by (λ member. has_ballot (vote_at k slot member) ballot) (range_with_len 1 k.members)

-- More than half of the members have kept votes of one ballot for the next slot, and the value is that of the least of them.
pub record IsChosenByKept (k : KeptVotes) (value : Value) : Type 0 where
  pub ballot : Ballot
  pub more_than_half : k.members < 2 * ballot_count k (next_slot k) ballot
  pub member : ℕ
  pub is_member : (1 ≤ member) × (member ≤ k.members)
  pub voted : vote_at k (next_slot k) member ≡ Some (record { ballot = ballot; value = value })
  pub is_least : (other : ℕ) → 1 ≤ other → other < member → has_ballot (vote_at k (next_slot k) other) ballot ≡ false

-- ---- the same, as it is computed

-- the value of a member's vote, where more than half of the members have kept votes of its ballot
abbrev pub majority_value : KeptVotes → ℕ → Option Vote → Option Value
majority_value k slot None = None
majority_value k slot (Some vote) = if nat_lt k.members (2 * ballot_count k slot vote.ballot) then Some vote.value else None

abbrev pub or_else : Option Value → Option Value → Option Value
or_else (Some value) other = Some value
or_else None other = other

-- of the first of these members that has one
abbrev pub first_majority_value : KeptVotes → ℕ → List ℕ → Option Value
first_majority_value k slot [] = None
first_majority_value k slot (member ∷ members) = or_else (majority_value k slot (vote_at k slot member)) (first_majority_value k slot members)

-- the value that is chosen for the next slot
unfoldable pub chosen_next : KeptVotes → Option Value
chosen_next k = first_majority_value k (next_slot k) (range_with_len 1 k.members)

-- ---- applying what is chosen

abbrev pub if_any_chosen : Option Value → KeptVotes → KeptVotes → KeptVotes
if_any_chosen None more k = k
if_any_chosen (Some value) more k = more

-- values are applied as long as the next slot has one, so many at most
unfoldable pub with_chosen_applied : ℕ → KeptVotes → KeptVotes
with_chosen_applied zero k = k
with_chosen_applied (suc most) k = if_any_chosen (chosen_next k) (with_chosen_applied most (after_next_slot k)) k

-- ---- a gap

-- a vote is kept for a slot after the next one
unfoldable pub has_gap : KeptVotes → Bool
has_gap k = list_any (λ place. nat_lt (next_slot k) place.0) (map.keys k.votes)

-- Votes for slots, in a list (own).
use Rattle.std.specs.Prelude.{ℕ, ◌==◌, ◌+◌, ◌<◌, ◌≤◌, nat_le, Option, None, Some, List, [], ◌∷◌, if◌then◌else◌}
use Rattle.press_wire.specs.Ranges.{slot_of}
use Rattle.press_wire.specs.declared.ballot.Ballot.{Ballot}
use Rattle.press_wire.specs.declared.vote.Vote.{Vote}
use Rattle.press_wire.specs.declared.votes.SlotVote.{SlotVote}

-- the vote for the slot: the first of these
abbrev pub vote_in : List SlotVote → ℕ → Option Vote
vote_in [] slot = None
vote_in (v ∷ votes) slot = if v.slot == slot then Some v.vote else vote_in votes slot

-- a vote for the slot before others, where there is one
abbrev pub with_vote : ℕ → Option Vote → List SlotVote → List SlotVote
with_vote slot None votes = votes
with_vote slot (Some vote) votes = record { slot = slot; vote = vote } ∷ votes

-- the votes that these slots have, in their order
abbrev pub votes_at : (ℕ → Option Vote) → List ℕ → List SlotVote
votes_at vote_of [] = []
votes_at vote_of (slot ∷ slots) = with_vote slot (vote_of slot) (votes_at vote_of slots)

-- with a vote for the slot, before those for later slots
abbrev pub put : ℕ → Vote → List SlotVote → List SlotVote
put slot vote [] = record { slot = slot; vote = vote } ∷ []
put slot vote (v ∷ votes) =
    if nat_le slot v.slot then (if v.slot == slot then record { slot = slot; vote = vote } ∷ votes else record { slot = slot; vote = vote } ∷ v ∷ votes)
    else v ∷ put slot vote votes

-- with the slot's vote cast in another ballot, where there is one
abbrev pub cast_again : ℕ → Ballot → List SlotVote → List SlotVote
cast_again slot ballot [] = []
cast_again slot ballot (v ∷ votes) =
    if v.slot == slot then record { slot = v.slot; vote = record { ballot = ballot; value = v.vote.value } } ∷ votes
    else v ∷ cast_again slot ballot votes

-- each with the number of its slot
abbrev pub pairs_of : List SlotVote → List (ℕ × Vote)
pairs_of [] = []
pairs_of (v ∷ votes) = (v.slot, v.vote) ∷ pairs_of votes

-- a vote for the slot of this number before others, where it is the number of one
abbrev pub with_pair : Option ℕ → Vote → Option (List SlotVote) → Option (List SlotVote)
with_pair (Some slot) vote (Some votes) = Some (record { slot = slot; vote = vote } ∷ votes)
with_pair None vote votes = None
with_pair (Some slot) vote None = None

-- votes for the slots of these numbers, if each is the number of one
abbrev pub of_pairs : List (ℕ × Vote) → Option (List SlotVote)
of_pairs [] = Some []
of_pairs (pair ∷ pairs) = with_pair (slot_of pair.0) pair.1 (of_pairs pairs)

-- slots that rise, from the first number on, and below the last
abbrev pub IsWithin : ℕ → ℕ → List SlotVote → Type 0
IsWithin first last [] = Unit {0}
IsWithin first last (v ∷ votes) = (first ≤ v.slot) × (v.slot < last) × IsWithin (v.slot + 1) last votes

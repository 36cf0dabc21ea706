-- What a learner keeps: of each member one vote for each of the next 64 slots, that of the greatest ballot (Paxos Made Simple, 2.3, and
-- for many slots 3; own: the window, and that of equal ballots the first vote stays).
use Rattle.std.specs.Prelude.{ℕ, ◌+◌, ◌≡◌, ◌≤◌, ◌⊎◌, ◌&&◌, nat_lt, nat_le, Bool, true, IsTrue, IsSome, Option, None, Some, if◌then◌else◌}
use Rattle.std.specs.Ordering.{nat_cmp, ordering_then}
use Rattle.std.specs.declared.cmp.Ordering.{Ordering}
use Rattle.std.specs.FinMap as map
use Rattle.std.specs.FinMap.{FinMap}
use Rattle.press_wire.specs.Ballots.{is_less}
use Rattle.press_wire.specs.Ranges.{last_slot}
use Rattle.press_wire.specs.declared.ballot.Ballot.{Ballot}
use Rattle.press_wire.specs.declared.vote.Vote.{Vote}

-- by slot, then by member
abbrev pub place_cmp : ℕ × ℕ → ℕ × ℕ → Ordering
place_cmp x y = ordering_then (nat_cmp x.0 y.0) (nat_cmp x.1 y.1)

pub record KeptVotes : Type 0 where
  -- how many members there are: they are numbered from 1
  pub members : ℕ
  -- the kept votes, by slot and member
  pub votes : FinMap place_cmp Vote
  -- how many slots are applied: the next slot is the one after them
  pub applied : ℕ

abbrev pub new_learner : ℕ → KeptVotes
new_learner members = record { members = members; votes = map.empty; applied = 0 }

abbrev pub next_slot : KeptVotes → ℕ
next_slot k = k.applied + 1

-- the member's kept vote for the slot
abbrev pub vote_at : KeptVotes → ℕ → ℕ → Option Vote
vote_at k slot member = map.get k.votes (slot, member)

-- one of the 64 slots after those applied
unfoldable pub is_in_window : ℕ → ℕ → Bool
is_in_window applied slot = nat_lt applied slot && nat_le slot (applied + 64)

-- the ballot is greater than that of the kept vote, or there is none
abbrev pub is_news : Option Vote → Ballot → Bool
is_news None ballot = true
is_news (Some old) ballot = is_less old.ballot ballot

-- after a vote that is kept
abbrev pub kept_with : KeptVotes → ℕ → ℕ → Vote → KeptVotes
kept_with k from slot vote = record { members = k.members; votes = map.insert k.votes (slot, from) vote; applied = k.applied }

-- after a vote came: it is kept, or dropped
abbrev pub with_vote : KeptVotes → ℕ → ℕ → Vote → KeptVotes
with_vote k from slot vote = if is_in_window k.applied slot && is_news (vote_at k slot from) vote.ballot then kept_with k from slot vote else k

-- after the next slot's value was applied: the votes for later slots stay
abbrev pub after_next_slot : KeptVotes → KeptVotes
after_next_slot k = record { members = k.members; votes = map.retain_keys k.votes (λ place. nat_lt (k.applied + 1) place.0); applied = k.applied + 1 }

-- the vote is of a member, for a slot of the window, and for none after 1,000,000
abbrev pub IsInPlace : KeptVotes → ℕ → ℕ → Type 0
IsInPlace k slot member = IsTrue (is_in_window k.applied slot) × (slot ≤ last_slot) × (1 ≤ member) × (member ≤ k.members)

-- each kept vote is: so there are at most 64 for each member
abbrev pub IsWindow : KeptVotes → Type 0
IsWindow k = (slot member : ℕ) → IsSome (vote_at k slot member) → IsInPlace k slot member

-- no vote is kept, of any member for any slot
abbrev pub KeepsNone : KeptVotes → Type 0
KeepsNone k = (slot member : ℕ) → vote_at k slot member ≡ None

-- ---- what a change adds

-- each vote that is kept after it was kept before it, for the same slot and member
abbrev pub AddsNone : KeptVotes → KeptVotes → Type 0
AddsNone before after = (slot member : ℕ) (vote : Vote) → vote_at after slot member ≡ Some vote → vote_at before slot member ≡ Some vote

-- it is the vote that came from the member for the slot
abbrev pub IsFrom : ℕ → ℕ → Vote → ℕ → ℕ → Vote → Type 0
IsFrom from slot vote member s v = (member ≡ from) × (s ≡ slot) × (v ≡ vote)

-- each vote that is kept after it was kept before it, or is the one that came from the member for the slot
abbrev pub AddsOnly : ℕ → ℕ → Vote → KeptVotes → KeptVotes → Type 0
AddsOnly from slot vote before after = (s m : ℕ) (v : Vote) → vote_at after s m ≡ Some v → (vote_at before s m ≡ Some v) ⊎ IsFrom from slot vote m s v

-- What happened among the members, as a list of facts, each legal by the facts before it (Paxos Made Simple, 2.2 and 2.3, for many slots at once).
-- A trace has its newest fact first: in f ∷ earlier, f comes after all of earlier.
use Rattle.std.specs.Prelude.{ℕ, ◌≡◌, ◌<◌, ◌≤◌, ◌*◌, ◌⊎◌, Bool, true, Option, None, Some, List, [], ◌∷◌}
use Rattle.std.specs.List.{count_by, range_with_len}
use Rattle.press_apply.specs.declared.value.Value.{Value}
use Rattle.press_wire.specs.declared.ballot.Ballot.{Ballot}
use Rattle.press_wire.specs.declared.vote.Vote.{Vote}
use Rattle.press_acceptor.specs.Ballots.{Less, AtMost}

-- Each slot is in one block, and blocks are named by numbers. A member is a number from 1 on.
pub data Fact : Type 0 where
  -- a proposer may use the ballot in the block: it sends its prepare requests
  Prepared : (ballot : Ballot) (block : ℕ) → Fact
  -- a member promises to vote no more in lesser ballots of the block, and reports its last vote for each slot of it
  Promised : (member : ℕ) (ballot : Ballot) (block : ℕ) (report : ℕ → Option Vote) → Fact
  -- a proposer asks for votes: it sends its accept requests
  Proposed : (ballot : Ballot) (slot : ℕ) (value : Value) → Fact
  -- a member accepts the proposal
  Voted : (member : ℕ) (ballot : Ballot) (slot : ℕ) (value : Value) → Fact

-- the fact is in the trace
abbrev pub Has : List Fact → Fact → Type 0
Has [] fact = ⊥
Has (newest ∷ earlier) fact = (fact ≡ newest) ⊎ Has earlier fact

-- one of the n members
abbrev pub IsMember : ℕ → ℕ → Type 0
IsMember n member = (1 ≤ member) × (member ≤ n)

-- More than half of the n members have P: those of a group, which is given by its test.
pub record Majority (n : ℕ) (P : ℕ → Type 0) : Type 0 where
  pub group : ℕ → Bool
  pub more_than_half : n < 2 * count_by group (range_with_len 1 n)
  pub each : (member : ℕ) → IsMember n member → group member ≡ true → P member

-- the member's vote for the slot of the greatest ballot so far, or none
abbrev pub IsLastVote : List Fact → ℕ → ℕ → Option Vote → Type 0
IsLastVote trace member slot None = (b : Ballot) (v : Value) → ¬ Has trace (Voted member b slot v)
IsLastVote trace member slot (Some vote) =
    Has trace (Voted member vote.ballot slot vote.value)
    × ((b : Ballot) (v : Value) → Has trace (Voted member b slot v) → AtMost b vote.ballot)

-- What the promises of a majority leave to a proposer (2.2, P2c): report says what each of them reported.
pub record MajorityAllows (n : ℕ) (trace : List Fact) (ballot : Ballot) (block slot : ℕ) (value : Value) : Type 0 where
  pub report : ℕ → ℕ → Option Vote
  pub promises : Majority n (λ member. Has trace (Promised member ballot block (report member)))
  -- none of them reports a vote for the slot, or the value is that of the reported vote of the greatest ballot
  pub chooses :
      ((member : ℕ) → IsMember n member → promises.group member ≡ true → report member slot ≡ None)
      ⊎ ((member : ℕ) × (best : Vote) × IsMember n member × (promises.group member ≡ true) × (report member slot ≡ Some best) × (best.value ≡ value)
      × ((other : ℕ) (vote : Vote) → IsMember n other → promises.group other ≡ true → report other slot ≡ Some vote → AtMost vote.ballot best.ballot))

-- the fact is legal after these; block_of gives the block of a slot
abbrev pub Allowed : ℕ → (ℕ → ℕ) → List Fact → Fact → Type 0
-- no ballot is prepared twice
Allowed n block_of earlier (Prepared ballot block) = (b : ℕ) → ¬ Has earlier (Prepared ballot b)
-- a ballot greater than each that the member took part in, with its last votes
Allowed n block_of earlier (Promised member ballot block report) =
    Has earlier (Prepared ballot block)
    × ((b : Ballot) (r : ℕ → Option Vote) → Has earlier (Promised member b block r) → Less b ballot)
    × ((b : Ballot) (s : ℕ) (v : Value) → block_of s ≡ block → Has earlier (Voted member b s v) → Less b ballot)
    × ((s : ℕ) → block_of s ≡ block → IsLastVote earlier member s (report s))
-- one proposal for a slot in a ballot, as the promises of a majority allow it
Allowed n block_of earlier (Proposed ballot slot value) =
    Has earlier (Prepared ballot (block_of slot))
    × ((v : Value) → ¬ Has earlier (Proposed ballot slot v))
    × MajorityAllows n earlier ballot (block_of slot) slot value
-- a proposal in no lesser ballot than any that the member promised, and in a greater one than any that it voted in
Allowed n block_of earlier (Voted member ballot slot value) =
    Has earlier (Proposed ballot slot value)
    × ((b : Ballot) (r : ℕ → Option Vote) → Has earlier (Promised member b (block_of slot) r) → AtMost b ballot)
    × ((b : Ballot) (v : Value) → Has earlier (Voted member b slot v) → Less b ballot)

-- each fact is legal by the facts before it
abbrev pub Legal : ℕ → (ℕ → ℕ) → List Fact → Type 0
Legal n block_of [] = Unit {0}
Legal n block_of (newest ∷ earlier) = Allowed n block_of earlier newest × Legal n block_of earlier

-- in some ballot, more than half of the members voted for the value
abbrev pub Chosen : ℕ → List Fact → ℕ → Value → Type 0
Chosen n trace slot value = (ballot : Ballot) × Majority n (λ member. Has trace (Voted member ballot slot value))

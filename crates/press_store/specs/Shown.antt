-- What the tables stand for.
use Rattle.std.specs.Prelude.{◌≡◌, ◌^◌, ◌+◌, nat_le, ◌&&◌, ℕ, ℤ, pos, Bool, if◌then◌else◌, filter, List, [], ◌∷◌, codes, Option, None, Some, option_map, unwrap_or, Result, Ok, Err}
use Rattle.std.specs.Ordering.{is_eq}
use Rattle.sqlite.specs.declared.types.Value.{Value}
use Rattle.sqlite.specs.declared.types.Value.TheVariants.{Int, Text, Blob}
use Rattle.sqlite.specs.Order.{Row, column, value_cmp}
use Rattle.sqlite.specs.Tree.{Trees, has_rowid, rowid}
use Rattle.press_apply.specs.declared.value.Value.{Value as Chosen}
use Rattle.press_apply.specs.declared.value.Value.TheVariants.{Noop}
use Rattle.press_wire.specs.declared.ballot.Ballot.{Ballot}
use Rattle.press_wire.specs.declared.vote.Vote.{Vote}
use Rattle.press_wire.specs.declared.votes.SlotVote.{SlotVote}
use Rattle.press_wire.specs.declared.fault.WireFault.{WireFault}
use Rattle.press_wire.specs.Blocks.{is_first, slots_of}
use Rattle.press_wire.specs.Votes.{votes_at}
use Rattle.press_wire.specs.Reading.{read_command}
use Rattle.press_acceptor.specs.InMemory.{map_of}
use Rattle.press_acceptor.specs.StoreMap.{StoreMap, promise_of, block_votes}
use Rattle.press_acceptor.specs.declared.block.Block.{Block}
use Rattle.press_store.specs.Named.{rows_of}
use Rattle.press_wire.specs.Ranges.{most_members}

-- ---- the values of a row

abbrev pub most_rounds : ℕ
most_rounds = 2 ^ 40

-- a number from low on that is no greater than this
abbrev pub number_in : ℕ → ℕ → Value → Option ℕ
number_in low most (Int (pos n)) = if nat_le low n && nat_le n most then Some n else None
number_in low most _ = None

abbrev pub ballot_of : Option ℕ → Option ℕ → Option Ballot
ballot_of (Some round) (Some node) = Some (record { round = round; node = node })
ballot_of _ _ = None

-- a ballot, or damaged
abbrev pub ballot_in : Value → Value → Option Ballot
ballot_in round node = ballot_of (number_in 1 most_rounds round) (number_in 1 most_members node)

-- the vote for the value that was read
abbrev pub vote_as : Ballot → Result Chosen WireFault → Option Vote
vote_as ballot (Ok value) = Some (record { ballot = ballot; value = value })
vote_as ballot (Err _) = None

-- a vote, or damaged
abbrev pub vote_in : Option Ballot → Value → Option Vote
vote_in (Some ballot) (Blob bytes) = vote_as ballot (read_command bytes)
vote_in _ _ = None

-- ---- the tables

-- what a row stands for that cannot be read: no call answers it, since no ballot has the round 0
abbrev pub damaged_ballot : Ballot
damaged_ballot = record { round = 0; node = 0 }

abbrev pub damaged_vote : Vote
damaged_vote = record { ballot = damaged_ballot; value = Noop 0 }

-- the same of a last round
abbrev pub damaged_round : ℕ
damaged_round = 2 ^ 64

-- the ballot in the row of a block, where there is one
abbrev pub promise_in : List Row → Option Ballot
promise_in [] = None
promise_in (r ∷ []) = Some (unwrap_or (ballot_in (column r 2) (column r 3)) damaged_ballot)
promise_in (r ∷ s ∷ more) = Some damaged_ballot

-- the vote in the row of a slot, where there is one
abbrev pub vote_in_rows : List Row → Option Vote
vote_in_rows [] = None
vote_in_rows (r ∷ []) = Some (unwrap_or (vote_in (ballot_in (column r 2) (column r 3)) (column r 4)) damaged_vote)
vote_in_rows (r ∷ s ∷ more) = Some damaged_vote

-- a block promises by its row; votes in a block without one are damage
abbrev pub promise_over : Option Ballot → List SlotVote → Option Ballot
promise_over (Some ballot) votes = Some ballot
promise_over None [] = None
promise_over None (v ∷ votes) = Some damaged_ballot

unfoldable pub vote_at : List Row → ℕ → Option Vote
vote_at votes slot = vote_in_rows (filter (has_rowid (pos slot)) votes)

unfoldable pub promise_at : List Row → List Row → ℕ → Option Ballot
promise_at blocks votes first = if is_first first then promise_over (promise_in (filter (has_rowid (pos first)) blocks)) (votes_at (vote_at votes) (slots_of first)) else None

abbrev pub is_last_round : Row → Bool
is_last_round r = is_eq (value_cmp (column r 1) (Text (codes "last_round")))

-- without a row it is 0, as where there are no tables
abbrev pub round_in : List Row → Option ℕ
round_in [] = Some 0
round_in (r ∷ []) = number_in 0 most_rounds (column r 2)
round_in (r ∷ s ∷ more) = None

unfoldable pub round_at : List Row → ℕ
round_at meta = unwrap_or (round_in (filter is_last_round meta)) damaged_round

-- What the rows of three tables stand for: the promises of blocks, the votes for slots 1 to 1,000,000, and the last round.
unfoldable pub store_of : (blocks votes meta : List Row) → StoreMap
store_of blocks votes meta = record { promises = map_of (promise_at blocks votes); votes = map_of (vote_at votes); last_round = round_at meta }

abbrev pub block_rows : Trees → List Row
block_rows db = rows_of (codes "block") db

abbrev pub vote_rows : Trees → List Row
vote_rows db = rows_of (codes "vote") db

abbrev pub meta_rows : Trees → List Row
meta_rows db = rows_of (codes "meta") db

-- the rows of version 1
abbrev pub old_rows : Trees → List Row
old_rows db = rows_of (codes "promise") db

-- there is one last round, in a row with a number
pub record IsKept (db : Trees) : Type 0 where
  pub row : Row
  pub one : filter is_last_round (meta_rows db) ≡ row ∷ []
  pub id : ℤ
  pub numbered : rowid row ≡ Int id

abbrev pub is_version : Row → Bool
is_version r = is_eq (value_cmp (column r 1) (Text (codes "version")))

-- there is one version, and it is that of these tables
pub record IsOurVersion (db : Trees) : Type 0 where
  pub row : Row
  pub one : filter is_version (meta_rows db) ≡ row ∷ []
  pub number : column row 2 ≡ Int (pos 2)

-- the same of version 1
pub record IsOldVersion (db : Trees) : Type 0 where
  pub row : Row
  pub one : filter is_version (meta_rows db) ≡ row ∷ []
  pub number : column row 2 ≡ Int (pos 1)

-- no row of version 1 is left
abbrev pub IsEmptied : Trees → Type 0
IsEmptied db = old_rows db ≡ []

-- ---- what the queries show

-- one row with one value, which stands for the last round
abbrev pub IsRoundRow : StoreMap → List Row → Type 0
IsRoundRow store rows = (v : Value) × (rows ≡ (v ∷ []) ∷ []) × (store.last_round ≡ unwrap_or (number_in 0 most_rounds v) damaged_round)

-- the promise in the row of a block: none, one, or damaged
abbrev pub shown_promise : List Row → Option (Option Ballot)
shown_promise [] = Some None
shown_promise (v ∷ []) = option_map Some (ballot_in (column v 0) (column v 1))
shown_promise (v ∷ w ∷ more) = None

-- the block has promised what its row shows, and nothing else but where it has votes without a row
abbrev pub IsPromiseShown : StoreMap → ℕ → Option Ballot → Type 0
IsPromiseShown store first shown = promise_of store first ≡ promise_over shown (block_votes store first)

abbrev pub slot_vote_of : Option ℕ → Option Vote → Option SlotVote
slot_vote_of (Some slot) (Some vote) = Some (record { slot = slot; vote = vote })
slot_vote_of _ _ = None

-- the vote in a row, for a slot in this range, or damaged
abbrev pub shown_vote : (least last : ℕ) → Row → Option SlotVote
shown_vote least last v = slot_vote_of (number_in least last (column v 0)) (vote_in (ballot_in (column v 1) (column v 2)) (column v 3))

abbrev pub before : Option SlotVote → (SlotVote → Option (List SlotVote)) → Option (List SlotVote)
before None rest = None
before (Some v) rest = option_map (λ votes. v ∷ votes) (rest v)

-- the votes in rows, for slots that rise, or damaged
unfoldable pub shown_votes : (least last : ℕ) → List Row → Option (List SlotVote)
shown_votes least last [] = Some []
shown_votes least last (v ∷ rows) = before (shown_vote least last v) (λ s. shown_votes (s.slot + 1) last rows)

-- a block of these, or damaged
abbrev pub block_from : Option Ballot → List SlotVote → Option Block
block_from (Some ballot) votes = Some (record { promised = Some ballot; votes = votes })
block_from None [] = Some (record { promised = None; votes = [] })
block_from None (v ∷ votes) = None

-- What the rows of version 1 stand for: each has the promise and the vote of a slot.
use Rattle.std.specs.Prelude.{◌+◌, ℕ, zero, suc, pos, if◌then◌else◌, filter, List, [], ◌∷◌, Option, None, Some, option_map, unwrap_or}
use Rattle.sqlite.specs.declared.types.Value.{Value}
use Rattle.sqlite.specs.declared.types.Value.TheVariants.{Null}
use Rattle.sqlite.specs.Order.{Row, column}
use Rattle.sqlite.specs.Tree.{has_rowid}
use Rattle.press_wire.specs.declared.ballot.Ballot.{Ballot}
use Rattle.press_wire.specs.declared.vote.Vote.{Vote}
use Rattle.press_wire.specs.Ballots.{is_less}
use Rattle.press_wire.specs.Blocks.{is_first}
use Rattle.press_store.specs.Shown.{ballot_in, vote_in, damaged_ballot, damaged_vote}

-- ---- the values of a row

-- none, a ballot, or damaged
abbrev pub perhaps_ballot : Value → Value → Option (Option Ballot)
perhaps_ballot Null Null = Some None
perhaps_ballot round node = option_map Some (ballot_in round node)

-- none, a vote, or damaged
abbrev pub perhaps_vote : Option (Option Ballot) → Value → Option (Option Vote)
perhaps_vote (Some None) Null = Some None
perhaps_vote (Some (Some ballot)) value = option_map Some (vote_in (Some ballot) value)
perhaps_vote _ _ = None

pub record SlotRow : Type 0 where
  pub promised : Option Ballot
  pub vote : Option Vote

abbrev pub slot_row_of : Option (Option Ballot) → Option (Option Vote) → Option SlotRow
slot_row_of (Some promised) (Some vote) = Some (record { promised = promised; vote = vote })
slot_row_of _ _ = None

abbrev pub no_row : SlotRow
no_row = record { promised = None; vote = None }

-- what stands for a row that cannot be read
abbrev pub damaged_row : SlotRow
damaged_row = record { promised = Some damaged_ballot; vote = Some damaged_vote }

-- ---- the table

abbrev pub read_in : List Row → Option SlotRow
read_in [] = Some no_row
read_in (r ∷ []) = slot_row_of (perhaps_ballot (column r 2) (column r 3)) (perhaps_vote (perhaps_ballot (column r 4) (column r 5)) (column r 6))
read_in (r ∷ s ∷ more) = None

-- the row of a slot, or damaged
unfoldable pub read_at : List Row → ℕ → Option SlotRow
read_at slots slot = read_in (filter (has_rowid (pos slot)) slots)

abbrev pub row_at : List Row → ℕ → SlotRow
row_at slots slot = unwrap_or (read_at slots slot) damaged_row

-- the row that a query on a slot shows: one, or damaged
abbrev pub shown_row : List Row → Option SlotRow
shown_row [] = Some no_row
shown_row (v ∷ []) = slot_row_of (perhaps_ballot (column v 0) (column v 1)) (perhaps_vote (perhaps_ballot (column v 2) (column v 3)) (column v 4))
shown_row (v ∷ w ∷ more) = None

-- ---- the greatest ballot

abbrev pub greater : Option Ballot → Option Ballot → Option Ballot
greater None b = b
greater (Some a) None = Some a
greater (Some a) (Some b) = Some (if is_less a b then b else a)

abbrev pub ballot_of_vote : Option Vote → Option Ballot
ballot_of_vote None = None
ballot_of_vote (Some v) = Some v.ballot

-- the greater one of what a row promises and where it voted
abbrev pub ballot_of_row : SlotRow → Option Ballot
ballot_of_row r = greater r.promised (ballot_of_vote r.vote)

-- the greatest one in so many slots from this one on
unfoldable pub greatest_to : List Row → (first count : ℕ) → Option Ballot
greatest_to slots first zero = None
greatest_to slots first (suc n) = greater (greatest_to slots first n) (ballot_of_row (row_at slots (first + n)))

-- the greatest one in the block with this first slot
unfoldable pub greatest_at : List Row → ℕ → Option Ballot
greatest_at slots first = if is_first first then greatest_to slots first 16 else None

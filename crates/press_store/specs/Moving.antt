-- What the steps of a migration leave of the trees: those of version 1 are 0 and 1, and the tables of blocks and votes behind them are 3 and 4.
use Rattle.std.specs.Prelude.{◌≡◌, ◌≢◌, ◌⊎◌, ◌≤◌, ◌<◌, ◌+◌, ◌*◌, ℕ, ℤ, pos, negsuc, filter, List, [], ◌∷◌, codes, Bool, IsTrue, Option, None, Some, Result, IfOk, IsSome}
use Rattle.std.specs.Ordering.{is_eq}
use Rattle.sqlite.specs.declared.error.Error.{Error}
use Rattle.sqlite.specs.declared.types.Value.TheVariants.{Int, Text}
use Rattle.sqlite.specs.Store.{Ghosts}
use Rattle.sqlite.specs.Order.{Row, column, value_cmp}
use Rattle.sqlite.specs.Tree.{Trees, has_rowid, rowid}
use Rattle.sqlite.specs.Schema.{Schema}
use Rattle.sqlite.specs.State.{HasCleanDisk}
use Rattle.sqlite.specs.Held.{Held, state}
use Rattle.sqlite_trees.specs.Objects.{catalog_tree}
use Rattle.sqlite_catalog.specs.Listing.{Lists}
use Rattle.press_wire.specs.declared.ballot.Ballot.{Ballot}
use Rattle.press_wire.specs.declared.vote.Vote.{Vote}
use Rattle.press_store.specs.Tables.{Moved, schema_of}
use Rattle.press_store.specs.Shown.{most_rounds, number_in, promise_in, vote_at}
use Rattle.press_store.specs.Slots.{SlotRow, read_at, row_at, shown_row, greatest_to, ballot_of_row}

module _ {S : Type 0} (g : Ghosts S) (old new : Held S) where
  -- a step from these tables that is done leaves the tables of both versions, and does this to their rows
  abbrev pub DoesFrom : {A : Type 0} → Schema → Result A Error → (Trees → Trees → A → Type 0) → Type 0
  DoesFrom schema result R = HasCleanDisk (state g new) → IsTrue (state g old).in_transaction → (state g old).now.schema ≡ schema
      → IfOk result (λ a. ((state g new).now.schema ≡ schema_of Moved) × R (state g old).now.trees (state g new).now.trees a)

  abbrev pub Does : {A : Type 0} → Result A Error → (Trees → Trees → A → Type 0) → Type 0
  Does = DoesFrom (schema_of Moved)

-- how many blocks there are
abbrev pub all_blocks : ℕ
all_blocks = 62500

-- ---- one row

-- the promise in the row of a block, where there is one
unfoldable pub block_at : List Row → ℕ → Option Ballot
block_at blocks first = promise_in (filter (has_rowid (pos first)) blocks)

-- the rows of version 1, those of `meta` and the list of tables stay
pub record Stay (old new : Trees) : Type 0 where
  pub slots : new 0 ≡ old 0
  pub meta : new 1 ≡ old 1
  pub listed : new catalog_tree ≡ old catalog_tree

-- a query on a slot changes nothing, and shows its row
pub record FindsRow (slot : ℕ) (old new : Trees) (rows : List Row) : Type 0 where
  pub same : new ≡ old
  pub row : shown_row rows ≡ read_at (old 0) slot

-- the slot has this vote, and nothing else is changed
pub record VotePut (slot : ℕ) (vote : Vote) (old new : Trees) : Type 0 where
  pub stay : Stay old new
  pub blocks : new 3 ≡ old 3
  pub here : vote_at (new 4) slot ≡ Some vote
  pub there : (s : ℕ) → 1 ≤ s → s ≢ slot → vote_at (new 4) s ≡ vote_at (old 4) s

pub record BallotPut (first : ℕ) (ballot : Ballot) (old new : Trees) : Type 0 where
  pub stay : Stay old new
  pub votes : new 4 ≡ old 4
  pub here : block_at (new 3) first ≡ Some ballot
  pub there : (s : ℕ) → 1 ≤ s → s ≢ first → block_at (new 3) s ≡ block_at (old 3) s

-- a slot without a vote has this one then, if any, and nothing else is changed
abbrev pub VoteMoved : ℕ → Option Vote → Trees → Trees → Type 0
VoteMoved slot vote old new = Stay old new × (new 3 ≡ old 3) × (vote_at (old 4) slot ≡ None → vote_at (new 4) slot ≡ vote) × ((s : ℕ) → 1 ≤ s → s ≢ slot → vote_at (new 4) s ≡ vote_at (old 4) s)

-- the vote of a row is moved, and its greatest ballot is told
abbrev pub RowMoved : ℕ → SlotRow → Trees → Trees → Option Ballot → Type 0
RowMoved slot row old new greatest = VoteMoved slot row.vote old new × (greatest ≡ ballot_of_row row)

-- a step that is done met no damage
abbrev pub IsDamagedOr : Option SlotRow → (SlotRow → Type 0) → Type 0
IsDamagedOr None P = ⊥
IsDamagedOr (Some row) P = P row

abbrev pub SlotMoved : ℕ → Trees → Trees → Option Ballot → Type 0
SlotMoved slot old new greatest = IsDamagedOr (read_at (old 0) slot) (λ row. RowMoved slot row old new greatest)

-- ---- rows after one another

-- The votes of so many slots from this one on are those of their rows, of which none is damaged; the others are as they were. What is told is the greatest ballot of these rows.
pub record VotesMoved (first count : ℕ) (old new : Trees) (greatest : Option Ballot) : Type 0 where
  pub stay : Stay old new
  pub blocks : new 3 ≡ old 3
  pub here : (n : ℕ) → n < count → vote_at (old 4) (first + n) ≡ None → vote_at (new 4) (first + n) ≡ (row_at (old 0) (first + n)).vote
  pub there : (s : ℕ) → 1 ≤ s → (s < first) ⊎ (first + count ≤ s) → vote_at (new 4) s ≡ vote_at (old 4) s
  pub told : greatest ≡ greatest_to (old 0) first count
  pub sound : (n : ℕ) → n < count → IsSome (read_at (old 0) (first + n))

-- A block is moved: its promise is the greatest ballot of its rows, and their votes are moved. The others are as they were.
pub record BlockMoved (first : ℕ) (old new : Trees) : Type 0 where
  pub stay : Stay old new
  pub here : (n : ℕ) → n < 16 → vote_at (old 4) (first + n) ≡ None → vote_at (new 4) (first + n) ≡ (row_at (old 0) (first + n)).vote
  pub there : (s : ℕ) → 1 ≤ s → (s < first) ⊎ (first + 16 ≤ s) → vote_at (new 4) s ≡ vote_at (old 4) s
  pub promise : block_at (old 3) first ≡ None → block_at (new 3) first ≡ greatest_to (old 0) first 16
  pub others : (s : ℕ) → 1 ≤ s → s ≢ first → block_at (new 3) s ≡ block_at (old 3) s
  pub sound : (n : ℕ) → n < 16 → IsSome (read_at (old 0) (first + n))

-- the first slot of the block behind so many
abbrev pub first_behind : ℕ → ℕ
first_behind count = 16 * count + 1

-- The tables of blocks and votes, which held nothing, hold so many blocks as the rows of version 1 stand for them.
pub record BlocksMoved (count : ℕ) (old new : Trees) : Type 0 where
  pub stay : Stay old new
  pub promises : (j : ℕ) → j < count → block_at (new 3) (first_behind j) ≡ greatest_to (old 0) (first_behind j) 16
  pub no_promise : (j : ℕ) → count ≤ j → block_at (new 3) (first_behind j) ≡ None
  pub votes : (s : ℕ) → 1 ≤ s → s < first_behind count → vote_at (new 4) s ≡ (row_at (old 0) s).vote
  pub no_vote : (s : ℕ) → first_behind count ≤ s → vote_at (new 4) s ≡ None
  pub sound : (s : ℕ) → 1 ≤ s → s < first_behind count → IsSome (read_at (old 0) s)

-- no row is in the tables of blocks and votes
abbrev pub AreEmpty : Trees → Type 0
AreEmpty db = (db 3 ≡ []) × (db 4 ≡ [])

-- the number is that of no slot up to this one
abbrev pub IsOutside : ℕ → ℤ → Type 0
IsOutside last (pos n) = (n ≡ 0) ⊎ (last < n)
IsOutside last (negsuc n) = Unit {0}

-- each row has the number of a slot up to this one
abbrev pub EndAt : ℕ → List Row → Type 0
EndAt last slots = (id : ℤ) → IsOutside last id → filter (has_rowid id) slots ≡ []

-- a query that shows no row outside the slots up to this one is over a table that has none there
pub record ShowsOutside (slot : ℕ) (old new : Trees) (rows : List Row) : Type 0 where
  pub same : new ≡ old
  pub none : rows ≡ [] → EndAt slot (old 0)

-- ---- the tables

-- the tables of blocks and votes are made, and have no row
pub record TablesAdded (old new : Trees) : Type 0 where
  pub slots : new 0 ≡ old 0
  pub meta : new 1 ≡ old 1
  pub empty : AreEmpty new
  pub listed : Lists (new catalog_tree) (schema_of Moved)

-- all but the table of version 1 stays
pub record OthersKept (old new : Trees) : Type 0 where
  pub meta : new 1 ≡ old 1
  pub blocks : new 3 ≡ old 3
  pub votes : new 4 ≡ old 4
  pub listed : new catalog_tree ≡ old catalog_tree

-- a query that shows no row is over a table without one
pub record ShowsNone (old new : Trees) (rows : List Row) : Type 0 where
  pub same : new ≡ old
  pub none : rows ≡ [] → old 0 ≡ []

pub record IsCleared (old new : Trees) : Type 0 where
  pub kept : OthersKept old new
  pub empty : new 0 ≡ []

-- ---- the numbers in `meta`

-- one row, which begins with a number and has this one behind it
abbrev pub IsOneOf : List Row → ℤ → Type 0
IsOneOf rows n = (row : Row) × (rows ≡ row ∷ []) × ((id : ℤ) × (column row 0 ≡ Int id)) × (column row 1 ≡ Int n)

abbrev pub is_named : List ℕ → Row → Bool
is_named name r = is_eq (value_cmp (column r 1) (Text name))

-- one row has the name, and it has the number
pub record HasNumber (name : List ℕ) (n : ℤ) (db : Trees) : Type 0 where
  pub row : Row
  pub one : filter (is_named name) (db 1) ≡ row ∷ []
  pub id : ℤ
  pub numbered : rowid row ≡ Int id
  pub number : column row 2 ≡ Int n

-- a query for a name changes nothing
pub record ShowsMeta (name : List ℕ) (old new : Trees) (rows : List Row) : Type 0 where
  pub same : new ≡ old
  pub number : (n : ℤ) → IsOneOf rows n → HasNumber name n old

pub record ShowsNumber (name : List ℕ) (old new : Trees) (found : Option ℤ) : Type 0 where
  pub same : new ≡ old
  pub number : (n : ℤ) → found ≡ Some n → HasNumber name n old

-- all but `meta` stays
pub record SetsMeta (old new : Trees) : Type 0 where
  pub slots : new 0 ≡ old 0
  pub blocks : new 3 ≡ old 3
  pub votes : new 4 ≡ old 4
  pub listed : new catalog_tree ≡ old catalog_tree

-- the version was 1 and is 2, and the last round stays
pub record IsMarked (old new : Trees) : Type 0 where
  pub set : SetsMeta old new
  pub round : ℤ
  pub sound : IsSome (number_in 0 most_rounds (Int round))
  pub was : HasNumber (codes "last_round") round old
  pub stays : HasNumber (codes "last_round") round new
  pub was_version : HasNumber (codes "version") (pos 1) old
  pub version : HasNumber (codes "version") (pos 2) new

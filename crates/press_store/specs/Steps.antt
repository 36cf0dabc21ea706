-- What the steps of a transaction leave.
use Rattle.std.specs.Prelude.{◌≡◌, IsTrue, Result, OnOk, OnErr}
use Rattle.sqlite.specs.declared.error.Error.{Error}
use Rattle.sqlite.specs.Store.{Ghosts}
use Rattle.sqlite.specs.Tree.{Trees}
use Rattle.sqlite.specs.State.{State, HasCleanDisk, KeepsCommit}
use Rattle.sqlite.specs.Held.{Held, state}
use Rattle.press_acceptor.specs.StoreMap.{StoreMap}
use Rattle.press_store.specs.Tables.{Layout}
use Rattle.press_store.specs.Stands.{store_in}
use Rattle.press_store.specs.Attempt.{AreTables}

-- what a crash may leave of a commit
abbrev pub IsTurned : State → (StoreMap → StoreMap) → Trees → Type 0
IsTurned old turn db = IsTrue old.is_open × ((l : Layout) → AreTables l old.now → store_in db ≡ turn (store_in old.now.trees))

module _ {S : Type 0} (g : Ghosts S) (old new : Held S) where
  -- nothing is committed
  abbrev pub Keeps : Type 0
  Keeps = HasCleanDisk (state g new) → IsTrue (state g old).in_transaction → KeepsCommit (state g old) (state g new)

  -- the transaction goes on, unless a call fails
  abbrev pub GoesOn : {A : Type 0} → Result A Error → Type 0
  GoesOn result = HasCleanDisk (state g new) → IsTrue (state g old).in_transaction → OnOk result (IsTrue (state g new).in_transaction)

  -- only an open connection does something
  abbrev pub WasUp : {A : Type 0} → Result A Error → Type 0
  WasUp result = HasCleanDisk (state g new) → IsTrue (state g old).in_transaction → OnOk result (IsTrue (state g old).is_open)

  -- the tables stay tables, and what they stand for becomes this
  abbrev pub Turns : {A : Type 0} → (StoreMap → StoreMap → Type 0) → Result A Error → Type 0
  Turns Becomes result = HasCleanDisk (state g new) → IsTrue (state g old).in_transaction → (l : Layout) → AreTables l (state g old).now
      → OnOk result (AreTables l (state g new).now × Becomes (store_in (state g old).now.trees) (store_in (state g new).now.trees))

  -- what the tables stand for is turned, and committed
  abbrev pub Commits : {A : Type 0} → (StoreMap → StoreMap) → Result A Error → Type 0
  Commits turn result = HasCleanDisk (state g new) → (l : Layout) → AreTables l (state g old).now
      → OnOk result (IsTrue (state g new).is_open × AreTables l (state g new).now × (store_in (state g new).now.trees ≡ turn (store_in (state g old).now.trees))
      × ((state g new).now ≡ (state g new).committed))

  -- only an open connection commits
  abbrev pub WasOpen : {A : Type 0} → Result A Error → Type 0
  WasOpen result = HasCleanDisk (state g new) → OnOk result (IsTrue (state g old).is_open)

  -- a fault leaves the database as the last commit left it
  abbrev pub Undone : {A : Type 0} → Result A Error → Type 0
  Undone result = HasCleanDisk (state g new) → IsTrue (state g new).is_open → OnErr result (IsTrue (state g old).is_open × ((state g new).now ≡ (state g old).committed) × ((state g new).committed ≡ (state g old).committed))

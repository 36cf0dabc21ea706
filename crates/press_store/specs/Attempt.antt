-- What one statement on a connection leaves.
use Rattle.std.specs.Prelude.{◌≡◌, ◌⊎◌, ◌≤◌, ℕ, List, false, None, Result, Err, IsTrue, OnOk, OnErr, IfOk, IfErr, Vec}
use Rattle.std.specs.declared.alloc.Global.{Global}
use Rattle.sqlite.specs.declared.error.Error.{Error}
use Rattle.sqlite.specs.Store.{Ghosts}
use Rattle.sqlite.specs.Order.{Row}
use Rattle.sqlite.specs.View.{doubt}
use Rattle.sqlite.specs.State.{State, HasCleanDisk, IsUnchanged, IsRolledBack, IsNotRun, Survives, Executes, CommitsBy, Shown, FailsToQuery, CommitsShowing}
use Rattle.sqlite.specs.Held.{Held, state}
use Rattle.press_acceptor.specs.StoreMap.{StoreMap, Only, OldOr, NoMore}
use Rattle.sqlite.specs.Effect.{Database}
use Rattle.sqlite_trees.specs.Objects.{catalog_tree}
use Rattle.sqlite_catalog.specs.Listing.{Lists}
use Rattle.press_store.specs.Tables.{Layout, schema_of}
use Rattle.press_store.specs.Shown.{IsKept, IsEmptied}
use Rattle.press_store.specs.Kept.{kept_by, MayLeave}
use Rattle.press_store.specs.Starts.{starts_in}

module _ {S : Type 0} (g : Ghosts S) (old new : Held S) (sql : List ℕ) (params : Row) (result : Result ℕ Error) where
  -- the text was understood, and then run
  pub record Begun : Type 0 where
    pub mid : Held S
    pub same : IsUnchanged (state g old) (state g mid)
    pub quiet : Survives (state g old) (state g mid) (λ _. ⊥)
    pub ran : Executes sql params (state g mid) (state g new) result
    pub left : Survives (state g mid) (state g new) (CommitsBy sql params (state g mid))

  pub record NotBegun : Type 0 where
    pub error : Error
    pub is : result ≡ Err error
    pub given : Row
    pub why : IsNotRun (state g old) (state g new) sql given error
    pub quiet : Survives (state g old) (state g new) (λ _. ⊥)

  abbrev pub Attempts : Type 0
  Attempts = Begun ⊎ NotBegun

  abbrev pub Ran : Type 0
  Ran = HasCleanDisk (state g new) → Attempts

module _ {S : Type 0} (g : Ghosts S) (old new : Held S) (sql : List ℕ) (params : Row) (result : Result (Vec Row Global) Error) where
  pub record Looking : Type 0 where
    pub mid : Held S
    pub same : IsUnchanged (state g old) (state g mid)
    pub quiet : Survives (state g old) (state g mid) (λ _. ⊥)
    pub ok : IfOk result (λ rows. Shown sql params (state g mid) (state g new) rows.items)
    pub err : IfErr result (FailsToQuery sql params (state g mid) (state g new))
    pub left : Survives (state g mid) (state g new) (CommitsShowing sql params (state g mid))

  pub record NotLooking : Type 0 where
    pub error : Error
    pub is : result ≡ Err error
    pub given : Row
    pub why : IsNotRun (state g old) (state g new) sql given error
    pub quiet : Survives (state g old) (state g new) (λ _. ⊥)

  abbrev pub Queries : Type 0
  Queries = Looking ⊎ NotLooking

  abbrev pub Asked : Type 0
  Asked = HasCleanDisk (state g new) → Queries

-- ---- tables that are a store's own

-- while the connection is open, nothing waits for a commit
abbrev pub IsSettled : State → Type 0
IsSettled s = IsTrue s.is_open → s.now ≡ s.committed

-- the tables in this layout with the last round, and no row of version 1
pub record AreTables (l : Layout) (db : Database) : Type 0 where
  pub schema : db.schema ≡ schema_of l
  pub listed : Lists (db.trees catalog_tree) (schema_of l)
  pub emptied : IsEmptied db.trees
  pub kept : IsKept db.trees

-- no transaction is open, and while the connection is open it has the tables
pub record Ready (s : State) : Type 0 where
  pub autocommit : s.in_transaction ≡ false
  pub unlimited : s.step_limit ≡ None
  pub tables : IsTrue s.is_open → (l : Layout) × AreTables l s.now
  pub settled : IsSettled s

abbrev pub IsReady : {S : Type 0} → Ghosts S → Held S → Type 0
IsReady g h = HasCleanDisk (state g h) → Ready (state g h)

-- One turn of the map is made, or none is. A crash leaves what could stand before or what the turn gives, and while the connection is open only what it keeps.
pub record Saved {A : Type 0} (turn : StoreMap → StoreMap) (old new : State) (result : Result A Error) : Type 0 where
  pub ready : Ready new
  pub saved : OnOk result (IsTrue new.is_open × IsTrue old.is_open × (kept_by new ≡ turn (kept_by old)))
  pub failed : OnErr result (IsTrue new.is_open → IsTrue old.is_open × (kept_by new ≡ kept_by old))
  pub only : IsTrue new.is_open → Only (kept_by new) (MayLeave new)
  pub crash : OldOr (MayLeave old) (MayLeave new) old.is_open (turn (kept_by old))

-- A query changes nothing, unless it fails: then the connection may be shut.
pub record Looked (old new : State) : Type 0 where
  pub ready : Ready new
  pub same : IsTrue new.is_open → IsTrue old.is_open × (kept_by new ≡ kept_by old)
  pub starts : IsTrue new.is_open → starts_in new.committed.trees ≡ starts_in old.committed.trees
  pub crash : NoMore (MayLeave old) (MayLeave new)

-- ---- what the clauses say, from one connection to another

module _ {S : Type 0} (g : Ghosts S) (old new : Held S) where
  -- a disk that is clean now was so before
  abbrev pub Doubts : Type 0
  Doubts = doubt (state g old).is_clean ≤ doubt (state g new).is_clean

  abbrev pub StaysReady : Type 0
  StaysReady = IsReady g old → IsReady g new

  abbrev pub Saves : {A : Type 0} → (StoreMap → StoreMap) → Result A Error → Type 0
  Saves turn result = HasCleanDisk (state g new) → IsReady g old → Saved turn (state g old) (state g new) result

  abbrev pub Looks : Type 0
  Looks = HasCleanDisk (state g new) → IsReady g old → Looked (state g old) (state g new)

  -- a connection that answers is open
  abbrev pub Opens : {A : Type 0} → Result A Error → Type 0
  Opens result = HasCleanDisk (state g new) → IsReady g old → OnOk result (IsTrue (state g new).is_open)

  -- what is answered is so of what the connection keeps, which was open
  abbrev pub Answers : {A : Type 0} → Result A Error → (StoreMap → A → Type 0) → Type 0
  Answers result Is = HasCleanDisk (state g new) → IsReady g old → IfOk result (λ found. IsTrue (state g old).is_open × Is (kept_by (state g old)) found)

-- ---- tables that may be another's

-- the connection is as it was, or has gone back to its last commit
abbrev pub Stays : State → State → Type 0
Stays old new = IsUnchanged old new ⊎ IsRolledBack old new

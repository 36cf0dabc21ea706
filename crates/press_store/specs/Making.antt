-- What the making of the tables leaves (own).
use Rattle.std.specs.Prelude.{◌≡◌, [], ℕ, IsTrue, Result, OnOk, OnErr}
use Rattle.sqlite.specs.declared.error.Error.{Error}
use Rattle.sqlite.specs.Store.{Ghosts}
use Rattle.sqlite.specs.Tree.{Trees}
use Rattle.sqlite.specs.Effect.{Database}
use Rattle.sqlite.specs.State.{State, HasCleanDisk}
use Rattle.sqlite.specs.Held.{Held, state}
use Rattle.sqlite_trees.specs.Objects.{catalog_tree}
use Rattle.sqlite_catalog.specs.Listing.{Lists}
use Rattle.press_acceptor.specs.StoreMap.{new_store}
use Rattle.press_store.specs.Tables.{Fresh, no_schema, schema_of, block_tree, vote_tree, meta_tree}
use Rattle.press_store.specs.Shown.{IsOurVersion}
use Rattle.press_store.specs.Stands.{store_in}
use Rattle.press_store.specs.Attempt.{AreTables}

-- the tables of a new store, and no row in them
pub record IsBare (db : Database) : Type 0 where
  pub schema : db.schema ≡ schema_of Fresh
  pub listed : Lists (db.trees catalog_tree) (schema_of Fresh)
  pub blocks : db.trees (block_tree Fresh) ≡ []
  pub votes : db.trees (vote_tree Fresh) ≡ []
  pub meta : db.trees (meta_tree Fresh) ≡ []

-- the tables of a new store, with their version
pub record IsFresh (db : Database) : Type 0 where
  pub tables : AreTables Fresh db
  pub version : IsOurVersion db.trees
  pub new : store_in db.trees ≡ new_store

-- what a crash may leave of a commit: the tables of a new store, where there was nothing
abbrev pub IsNewIn : State → Trees → Type 0
IsNewIn old trees = IsTrue old.is_open × (old.now.schema ≡ no_schema → IsFresh (record { schema = schema_of Fresh; trees = trees }))

module _ {S : Type 0} (g : Ghosts S) (old new : Held S) where
  abbrev pub MakesTables : Result ℕ Error → Type 0
  MakesTables result = HasCleanDisk (state g new) → IsTrue (state g old).in_transaction → (state g old).now.schema ≡ no_schema → OnOk result (IsBare (state g new).now × IsTrue (state g new).in_transaction)

  abbrev pub MakesRows : Result ℕ Error → Type 0
  MakesRows result = HasCleanDisk (state g new) → IsTrue (state g old).in_transaction → IsBare (state g old).now → OnOk result (IsFresh (state g new).now × IsTrue (state g new).in_transaction)

  abbrev pub Makes : {A : Type 0} → Result A Error → Type 0
  Makes result = HasCleanDisk (state g new) → (state g old).now.schema ≡ no_schema → OnOk result (IsTrue (state g old).is_open × IsTrue (state g new).is_open × IsFresh (state g new).now × ((state g new).now ≡ (state g new).committed))

  -- a fault leaves the database as it was
  abbrev pub Unmade : {A : Type 0} → Result A Error → Type 0
  Unmade result = HasCleanDisk (state g new) → IsTrue (state g new).is_open → OnErr result (IsTrue (state g old).is_open × ((state g new).now ≡ (state g old).now))

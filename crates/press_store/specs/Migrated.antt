-- What a migration leaves.
use Rattle.std.specs.Prelude.{◌≡◌, ◌≤◌, ◌<◌, ℕ, ℤ, pos, codes, [], IsSome, IsTrue, Result, OnOk}
use Rattle.sqlite.specs.declared.types.Value.TheVariants.{Int}
use Rattle.sqlite.specs.Store.{Ghosts}
use Rattle.sqlite.specs.Tree.{Trees}
use Rattle.sqlite.specs.State.{State, HasCleanDisk}
use Rattle.sqlite.specs.Held.{Held, state}
use Rattle.sqlite_trees.specs.Objects.{catalog_tree}
use Rattle.sqlite_catalog.specs.Listing.{Lists}
use Rattle.press_wire.specs.Ranges.{last_slot}
use Rattle.press_store.specs.Tables.{Moved, schema_of, old_schema}
use Rattle.press_store.specs.Shown.{vote_at, most_rounds, number_in, IsOurVersion}
use Rattle.press_store.specs.Stands.{store_in}
use Rattle.press_store.specs.Attempt.{AreTables}
use Rattle.press_store.specs.Slots.{read_at, row_at, greatest_to}
use Rattle.press_store.specs.Moving.{EndAt, all_blocks, block_at, first_behind, HasNumber}

-- Table by table: a block's promise is the greatest ballot of its 16 rows of version 1, a vote is that of its row, and the last round stays.
pub record Migrated (old new : Trees) : Type 0 where
  pub listed : Lists (new catalog_tree) (schema_of Moved)
  pub emptied : new 0 ≡ []
  pub promises : (j : ℕ) → j < all_blocks → block_at (new 3) (first_behind j) ≡ greatest_to (old 0) (first_behind j) 16
  pub votes : (s : ℕ) → 1 ≤ s → s ≤ last_slot → vote_at (new 4) s ≡ (row_at (old 0) s).vote
  pub sound : (s : ℕ) → 1 ≤ s → s ≤ last_slot → IsSome (read_at (old 0) s)
  pub ends : EndAt last_slot (old 0)
  pub round : ℤ
  pub round_sound : IsSome (number_in 0 most_rounds (Int round))
  pub was : HasNumber (codes "last_round") round old
  pub stays : HasNumber (codes "last_round") round new
  pub was_version : HasNumber (codes "version") (pos 1) old
  pub version : HasNumber (codes "version") (pos 2) new

-- the tables of version 2 stand for what those of version 1 stood for
pub record IsMigrated (old new : Trees) : Type 0 where
  pub tables : AreTables Moved (record { schema = schema_of Moved; trees = new })
  pub version : IsOurVersion new
  pub same : store_in new ≡ store_in old

-- what a crash may leave of a commit
abbrev pub IsMigratedFrom : State → Trees → Type 0
IsMigratedFrom old db = IsTrue old.is_open × (old.now.schema ≡ old_schema → Migrated old.now.trees db)

module _ {S : Type 0} (g : Ghosts S) (old new : Held S) where
  abbrev pub Migrates : {A F : Type 0} → Result A F → Type 0
  Migrates result = HasCleanDisk (state g new) → (state g old).now.schema ≡ old_schema
      → OnOk result (IsTrue (state g old).is_open × IsTrue (state g new).is_open × ((state g new).now.schema ≡ schema_of Moved) × Migrated (state g old).now.trees (state g new).now.trees × ((state g new).now ≡ (state g new).committed))

-- What an adoption leaves (own).
use Rattle.std.specs.Prelude.{◌≡◌, ◌≤◌, ◌⊎◌, IsSome, ◌&&◌, ◌||◌, ℕ, Bool, not, is_some, filter, List, codes, IsTrue}
use Rattle.sqlite.specs.Schema.{Schema}
use Rattle.sqlite_schema.specs.Names.{table_named}
use Rattle.sqlite.specs.Store.{Ghosts}
use Rattle.sqlite.specs.Tree.{Trees}
use Rattle.sqlite.specs.State.{State, HasCleanDisk}
use Rattle.sqlite.specs.Held.{Held, state}
use Rattle.press_wire.specs.Ranges.{last_slot}
use Rattle.press_acceptor.specs.StoreMap.{Only, NoMore, new_store}
use Rattle.press_store.specs.Tables.{Layout, Fresh, Moved, no_schema, old_schema, schema_of}
use Rattle.press_store.specs.Shown.{IsEmptied, IsKept, IsOldVersion, IsOurVersion, is_last_round, meta_rows, old_rows, round_in}
use Rattle.press_store.specs.Moving.{EndAt}
use Rattle.press_store.specs.Slots.{read_at}
use Rattle.press_store.specs.Kept.{kept_by, MayLeave}
use Rattle.press_store.specs.Attempt.{Ready}
use Rattle.press_store.specs.Making.{IsFresh}
use Rattle.press_store.specs.Migrated.{IsMigrated}

-- the tables are those of a store, in one of their layouts, and nothing else
abbrev pub IsOurs : Schema → Type 0
IsOurs schema = (l : Layout) × (schema ≡ schema_of l)

-- the tables are those of version 1, and nothing else
abbrev pub IsOld : Schema → Type 0
IsOld schema = schema ≡ old_schema

-- the database has nothing in it, or the tables of a store, of this version or of version 1, and nothing else
abbrev pub IsServed : State → Type 0
IsServed s = (s.now.schema ≡ no_schema) ⊎ (IsOurs s.now.schema ⊎ IsOld s.now.schema)

abbrev pub has_table : Schema → List ℕ → Bool
has_table schema name = is_some (table_named schema name)

-- the three tables of a store are there
abbrev pub has_all : Schema → Bool
has_all schema = has_table schema (codes "block") && (has_table schema (codes "vote") && has_table schema (codes "meta"))

-- one of these is there, or that of version 1
abbrev pub has_any : Schema → Bool
has_any schema = has_table schema (codes "block") || (has_table schema (codes "vote") || (has_table schema (codes "meta") || has_table schema (codes "promise")))

-- the tables of version 1 are there, without those of blocks and votes
abbrev pub is_unmoved : Schema → Bool
is_unmoved schema = has_table schema (codes "promise") && (has_table schema (codes "meta") && not (has_table schema (codes "block") || has_table schema (codes "vote")))

-- some of the tables of a version are there without the others
unfoldable pub is_half : Schema → Bool
is_half schema = has_any schema && not (has_all schema || is_unmoved schema)

-- each row of version 1 has the number of a slot, and can be read, and so can the last round, of which there is one
abbrev pub AreSound : Trees → Type 0
AreSound db = EndAt last_slot (old_rows db) × ((slot : ℕ) → 1 ≤ slot → slot ≤ last_slot → IsSome (read_at (old_rows db) slot))
    × IsKept db × IsSome (round_in (filter is_last_round (meta_rows db)))

-- The tables stand for the maps for which they stood, of whichever version they were; an empty database is a new store. A crash leaves nothing else. Tables that were there had their
-- version and a last round, and those of version 2 no row of version 1, those of version 1 no damaged one. Made, migrated or found, they are of version 2 without such a row, also where a
-- crash leaves them; the table of version 1 stays.
pub record Adopts (old new : State) : Type 0 where
  pub is_open : IsTrue new.is_open
  pub served : IsServed old
  pub kept : kept_by new ≡ kept_by old
  pub begins : old.now.schema ≡ no_schema → kept_by new ≡ new_store
  pub version : IsOurs old.now.schema → IsOurVersion old.now.trees
  pub old_version : IsOld old.now.schema → IsOldVersion old.now.trees
  pub emptied : IsOurs old.now.schema → IsEmptied old.now.trees
  pub had_round : IsOurs old.now.schema → IsKept old.now.trees
  pub sound : IsOld old.now.schema → AreSound old.now.trees
  pub moved : IsOld old.now.schema → new.now.schema ≡ schema_of Moved
  pub durable : Only (kept_by new) (MayLeave new)
  pub version_shown : IsOurVersion new.now.trees
  pub version_left : (db : Trees) → new.may_leave db → IsOurVersion db
  pub emptied_shown : IsEmptied new.now.trees
  pub emptied_left : (db : Trees) → new.may_leave db → IsEmptied db

-- what a commit that was begun may leave: a new store where there was nothing, and tables of version 2 that stand for those of version 1, which had no damaged row
abbrev pub IsMade : State → Trees → Type 0
IsMade old db = ((old.now.schema ≡ no_schema) × IsFresh (record { schema = schema_of Fresh; trees = db }))
    ⊎ (IsOld old.now.schema × IsMigrated old.now.trees db × IsOldVersion old.now.trees × AreSound old.now.trees)

-- What is returned: the database as it was. A crash leaves what it could leave before, or what a commit that was begun leaves. Either stands for maps that it could leave before.
pub record HandsBack (old new : State) : Type 0 where
  pub same : IsTrue new.is_open → IsTrue old.is_open × (new.now ≡ old.now)
  pub crash : (db : Trees) → new.may_leave db → old.may_leave db ⊎ (IsTrue old.is_open × IsMade old db)
  pub maps : NoMore (MayLeave old) (MayLeave new)

module _ {S : Type 0} (g : Ghosts S) (old new : Held S) where
  abbrev pub IsAdopted : Type 0
  IsAdopted = HasCleanDisk (state g new) → Ready (state g new) × Adopts (state g old) (state g new)

  abbrev pub IsHandedBack : Type 0
  IsHandedBack = HasCleanDisk (state g new) → IsServed (state g old) → HandsBack (state g old) (state g new)

  -- a disk that is clean now was so before, and a crash leaves the maps that an open connection kept, and nothing else
  abbrev pub LeavesItsMaps : Type 0
  LeavesItsMaps = HasCleanDisk (state g new) → HasCleanDisk (state g old) × (IsServed (state g old) → IsTrue (state g old).is_open → Only (kept_by (state g old)) (MayLeave (state g new)))

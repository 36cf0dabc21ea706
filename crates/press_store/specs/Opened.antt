-- What an open finds of an earlier run (own).
use Rattle.std.specs.Prelude.{◌≡◌, ◌⊎◌, IsTrue}
use Rattle.sqlite.specs.Recovery.{Image}
use Rattle.sqlite.specs.Tree.{Trees}
use Rattle.sqlite.specs.State.{State}
use Rattle.sqlite.specs.Files.{HoldsDatabase, IsNothing}
use Rattle.sqlite_catalog.specs.Listing.{IsSound}
use Rattle.press_acceptor.specs.StoreMap.{Only, new_store}
use Rattle.press_store.specs.Tables.{Layout, old_schema, schema_of}
use Rattle.press_store.specs.Shown.{IsEmptied, IsKept, IsOldVersion, IsOurVersion}
use Rattle.press_store.specs.Adopted.{AreSound}
use Rattle.press_store.specs.Stands.{store_in}
use Rattle.press_store.specs.Kept.{kept_by, MayLeave}

-- It is open, and a crash leaves what it keeps and nothing else. Its tables have their version and no row of version 1, also where a crash leaves them.
pub record IsUp (s : State) : Type 0 where
  pub is_open : IsTrue s.is_open
  pub durable : Only (kept_by s) (MayLeave s)
  pub version_shown : IsOurVersion s.now.trees
  pub version_left : (db : Trees) → s.may_leave db → IsOurVersion db
  pub emptied_shown : IsEmptied s.now.trees
  pub emptied_left : (db : Trees) → s.may_leave db → IsEmptied db

-- What was saved is found again: it keeps what the trees stand for that the files hold, whether version 1 or this one saved it.
abbrev pub Finds : Image → State → Type 0
Finds image s = (db : Trees) → HoldsDatabase image db → kept_by s ≡ store_in db

-- where the files hold no database yet, it is a new store
abbrev pub Begins : Image → State → Type 0
Begins image s = IsNothing image → kept_by s ≡ new_store

-- The tables that the files held had their version and a last round, those of this version no row of version 1, and those of version 1 no damaged one.
abbrev pub WereSound : Image → Type 0
WereSound image = (db : Trees) → HoldsDatabase image db → (IsSound old_schema db → IsOldVersion db × AreSound db)
    × ((l : Layout) → IsSound (schema_of l) db → IsOurVersion db × IsEmptied db × IsKept db)

-- the trees are those of a store's tables, of this version or of version 1, and of nothing else
abbrev pub IsStore : Trees → Type 0
IsStore db = ((l : Layout) × IsSound (schema_of l) db) ⊎ IsSound old_schema db

-- the files hold no database yet, or that of a store
abbrev pub HoldsServed : Image → Type 0
HoldsServed image = IsNothing image ⊎ ((db : Trees) × HoldsDatabase image db × IsStore db)

-- Each map that a crash may leave is the one that the files held, or a new store's where they held no database yet.
pub record LeavesFound (image : Image) (s : State) : Type 0 where
  pub found : (db : Trees) → HoldsDatabase image db → Only (store_in db) (MayLeave s)
  pub begun : IsNothing image → Only new_store (MayLeave s)

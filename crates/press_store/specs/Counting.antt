-- What begins a start, and what a save of it leaves (own): all of it, or nothing.
use Rattle.std.specs.Prelude.{◌≡◌, ◌⊎◌, ◌+◌, ℕ, List, true, Option, None, Some, IsTrue, IfSome, IfOk, Result, OnOk, OnErr}
use Rattle.sqlite.specs.declared.error.Error.{Error}
use Rattle.sqlite.specs.Store.{Ghosts}
use Rattle.sqlite.specs.Tree.{Trees}
use Rattle.sqlite.specs.State.{State, HasCleanDisk}
use Rattle.sqlite.specs.Held.{Held, state}
use Rattle.press_acceptor.specs.StoreMap.{StoreMap}
use Rattle.press_starts.specs.declared.mark.Mark.{Mark}
use Rattle.press_starts.specs.declared.sighting.Sighting.{Sighting}
use Rattle.press_store.specs.Tables.{Layout, Fresh, Moved, FreshStarts, MovedStarts, HasStarts, with_starts}
use Rattle.press_store.specs.Shown.{IsOurVersion}
use Rattle.press_store.specs.Stands.{store_in}
use Rattle.press_store.specs.Starts.{HasMark, StartMap, is_start, starts_in, with_mark, with_all_heard, with_note}
use Rattle.press_store.specs.Attempt.{AreTables, IsReady, Ready}

-- ---- what is written

-- What a save makes of the tables: this of what they stand for, and this of what they say of starts.
pub record IsCounted (turn : StoreMap → StoreMap) (count : StartMap → StartMap) (old new : Trees) : Type 0 where
  pub stands : store_in new ≡ turn (store_in old)
  pub starts : starts_in new ≡ count (starts_in old)

-- The same of a write to the tables of starts, which leaves their version as it is.
pub record IsWritten (turn : StoreMap → StoreMap) (count : StartMap → StartMap) (old new : Trees) : Type 0 where
  pub stands : store_in new ≡ turn (store_in old)
  pub starts : starts_in new ≡ count (starts_in old)
  pub version : IsOurVersion old → IsOurVersion new

-- the start is in the file, without a save
abbrev pub first_mark : ℕ → Mark
first_mark start = record { start = start; saves = 0 }

-- a start begins, and nothing else is changed
abbrev pub BeginsStart : ℕ → Trees → Trees → Type 0
BeginsStart start = IsWritten (λ store. store) (with_mark (first_mark start))

-- a note is put in the place of the one that is there, and nothing else is changed
abbrev pub PutsNote : ℕ → List ℕ → Trees → Trees → Type 0
PutsNote id bytes = IsWritten (λ store. store) (with_note id bytes)

-- the start made one save more
abbrev pub next_mark : Mark → Mark
next_mark mark = record { start = mark.start; saves = mark.saves + 1 }

-- a save is counted: with it the start has so many, and what was heard is kept
abbrev pub counted : Mark → List Sighting → StartMap → StartMap
counted mark heard map = with_all_heard heard (with_mark mark map)

-- ---- what is left

-- All of it is written, or nothing; and a crash leaves all of it or nothing. Where it is done, a crash leaves that alone.
pub record WritesAll {A F : Type 0} (R : Trees → Trees → Type 0) (old new : State) (result : Result A F) : Type 0 where
  pub done : OnOk result (IsTrue old.is_open × IsTrue new.is_open × R old.committed.trees new.committed.trees)
  pub failed : OnErr result (IsTrue new.is_open → IsTrue old.is_open × (new.committed ≡ old.committed))
  pub only : IsTrue new.is_open → (db : Trees) → new.may_leave db → db ≡ new.committed.trees
  pub crash : (db : Trees) → new.may_leave db → old.may_leave db ⊎ (IsTrue old.is_open × R old.committed.trees db)

-- what the last commit says of starts
abbrev pub starts_by : State → StartMap
starts_by s = starts_in s.committed.trees

-- while it is open, the file has this mark, where there is one
abbrev pub IsRunning : State → Option Mark → Type 0
IsRunning s mark = IsTrue s.is_open → IfSome mark (λ it. HasMark it (starts_by s))

-- the same of a connection, while its disk is clean
abbrev pub HasRunning : {S : Type 0} → Ghosts S → Held S → Option Mark → Type 0
HasRunning g h mark = HasCleanDisk (state g h) → IsRunning (state g h) mark

-- a mark is of a start
abbrev pub IsOfStart : Option Mark → Type 0
IsOfStart mark = IfSome mark (λ it. is_start it.start ≡ true)

-- ---- the steps of a transaction

-- the tables of starts are not there
abbrev pub LacksStarts : Layout → Type 0
LacksStarts Fresh = Unit {0}
LacksStarts Moved = Unit {0}
LacksStarts FreshStarts = ⊥
LacksStarts MovedStarts = ⊥

-- what a commit may leave
abbrev pub IsActed : (Layout → Type 0) → (Trees → Trees → Type 0) → State → Trees → Type 0
IsActed Has R old db = IsTrue old.is_open × ((l : Layout) → Has l → AreTables l old.now → R old.now.trees db)

module _ {S : Type 0} (g : Ghosts S) (Has : Layout → Type 0) (R : Trees → Trees → Type 0) (old new : Held S) where
  -- the tables stay tables, with those of starts, and this is done to them
  abbrev pub Acts : {A : Type 0} → Result A Error → Type 0
  Acts result = HasCleanDisk (state g new) → IsTrue (state g old).in_transaction → (l : Layout) → Has l → AreTables l (state g old).now
      → OnOk result (AreTables (with_starts l) (state g new).now × R (state g old).now.trees (state g new).now.trees)

  -- and it is committed
  abbrev pub CommitsAll : {A : Type 0} → Result A Error → Type 0
  CommitsAll result = HasCleanDisk (state g new) → (l : Layout) → Has l → AreTables l (state g old).now
      → OnOk result (IsTrue (state g new).is_open × AreTables (with_starts l) (state g new).now × R (state g old).now.trees (state g new).now.trees
      × ((state g new).now ≡ (state g new).committed))

-- the tables say of starts what they said
abbrev pub SparesStarts : {S A : Type 0} → Ghosts S → Held S → Held S → Result A Error → Type 0
SparesStarts g old new result = HasCleanDisk (state g new) → IsTrue (state g old).in_transaction → (l : Layout) → AreTables l (state g old).now → OnOk result (starts_in (state g new).now.trees ≡ starts_in (state g old).now.trees)

-- ---- from one connection to another

module _ {S : Type 0} (g : Ghosts S) (old new : Held S) where
  -- from a file that has a start of this name, all of it is written, or nothing
  abbrev pub Counts : {A F : Type 0} → ℕ → (Trees → Trees → Type 0) → Result A F → Type 0
  Counts start R result = HasCleanDisk (state g new) → IsReady g old → (IsTrue (state g old).is_open → (n : ℕ) × HasMark (record { start = start; saves = n }) (starts_by (state g old)))
      → Ready (state g new) × WritesAll R (state g old) (state g new) result

  -- a save of the start that runs is counted, with what was heard
  abbrev pub SavesCounted : {A F : Type 0} → (StoreMap → StoreMap) → Mark → Result A F → Type 0
  SavesCounted turn mark result = (heard : List Sighting) × WritesAll (IsCounted turn (counted (next_mark mark) heard)) (state g old) (state g new) result

  -- what is answered is what an open connection's last commit says of starts
  abbrev pub Says : {A F : Type 0} → Result A F → (StartMap → A → Type 0) → Type 0
  Says result Is = HasCleanDisk (state g new) → IsReady g old → IsTrue (state g old).is_open → IfOk result (λ found. Is (starts_by (state g old)) found)

  -- from any file, all of it is written, or nothing
  abbrev pub WritesWhole : {A F : Type 0} → (Trees → Trees → Type 0) → Result A F → Type 0
  WritesWhole R result = HasCleanDisk (state g new) → IsReady g old → Ready (state g new) × WritesAll R (state g old) (state g new) result

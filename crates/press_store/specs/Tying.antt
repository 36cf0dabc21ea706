-- What the steps of a tie leave.
use Rattle.std.specs.Prelude.{◌≡◌, ◌⊎◌, Option, None, Some, IsTrue, IfSome, Result, IfOk, OnOk, OnErr}
use Rattle.sqlite.specs.Store.{Ghosts}
use Rattle.sqlite.specs.Tree.{Trees}
use Rattle.sqlite.specs.State.{State, HasCleanDisk}
use Rattle.sqlite.specs.Held.{Held, state}
use Rattle.press_store.specs.declared.owner.Owner.{Owner}
use Rattle.press_store.specs.declared.owner.Tie.{Tie}
use Rattle.press_store.specs.declared.owner.Tie.TheVariants.{Own, Taken, Foreign}
use Rattle.press_store.specs.Attempt.{IsReady}
use Rattle.press_store.specs.Shown.{IsOurVersion}
use Rattle.press_store.specs.Owned.{owner_in, tie_of}

-- what the last commit says of the owner
abbrev pub said_by : State → Option (Option Owner)
said_by s = owner_in s.committed.trees

-- it is nobody's, and a member asks: only then is something written
abbrev pub IsFree : State → Option Owner → Type 0
IsFree s asked = tie_of (said_by s) asked ≡ Some Taken

-- while it is open it keeps the very tables that it kept
abbrev pub Same : State → State → Type 0
Same old new = IsTrue new.is_open → IsTrue old.is_open × (new.committed ≡ old.committed)

-- nothing at all is changed, and a crash leaves no tables that it could not leave before
pub record IsUntouched (old new : State) : Type 0 where
  pub same : Same old new
  pub crash : (db : Trees) → new.may_leave db → old.may_leave db

-- the file is this one's, also where a crash leaves it
pub record IsOwned (owner : Option Owner) (s : State) : Type 0 where
  pub is_open : IsTrue s.is_open
  pub says : said_by s ≡ Some owner
  pub left : (db : Trees) → s.may_leave db → owner_in db ≡ Some owner

-- a crash leaves tables that it could leave before, or all rows of the owner
abbrev pub LeavesTied : Option Owner → State → State → Type 0
LeavesTied owner old new = (db : Trees) → new.may_leave db → old.may_leave db ⊎ (IsTrue old.is_open × (owner_in db ≡ Some owner))

-- tables of this version stay so, also where a crash leaves them
pub record VersionStays (old new : State) : Type 0 where
  pub shown : IsTrue new.is_open → IsOurVersion old.committed.trees → IsOurVersion new.committed.trees
  pub left : IsOurVersion old.committed.trees → (db : Trees) → new.may_leave db → old.may_leave db ⊎ IsOurVersion db

-- all rows are written, or none
pub record IsTied {A F : Type 0} (owner : Owner) (old new : State) (result : Result A F) : Type 0 where
  pub tied : OnOk result (IsOwned (Some owner) new)
  pub failed : OnErr result (Same old new)
  pub crash : LeavesTied (Some owner) old new

-- the one that asks has the file then
abbrev pub GivesFile : Tie → Type 0
GivesFile Own = Unit {0}
GivesFile Taken = Unit {0}
GivesFile Foreign = ⊥

module _ {S : Type 0} (g : Ghosts S) (old new : Held S) where
  abbrev pub Spares : Type 0
  Spares = HasCleanDisk (state g new) → IsReady g old → IsUntouched (state g old) (state g new)

  -- what is answered is so of the tables that an open connection keeps
  abbrev pub Finds : {A F : Type 0} → Result A F → (Trees → A → Type 0) → Type 0
  Finds result Is = HasCleanDisk (state g new) → IsReady g old → IfOk result (λ found. IsTrue (state g old).is_open × Is (state g old).committed.trees found)

  abbrev pub Ties : {A F : Type 0} → Owner → Result A F → Type 0
  Ties owner result = HasCleanDisk (state g new) → IsReady g old → said_by (state g old) ≡ Some None → IsTied owner (state g old) (state g new) result

  -- nothing is changed but where the file is taken
  abbrev pub SparesTied : Option Owner → Type 0
  SparesTied asked = HasCleanDisk (state g new) → IsReady g old → ¬ IsFree (state g old) asked → IsUntouched (state g old) (state g new)

  abbrev pub Owns : {F : Type 0} → Option Owner → Result (Option Tie) F → Type 0
  Owns asked result = HasCleanDisk (state g new) → IsReady g old → IfOk result (λ found. IfSome found (λ tie. GivesFile tie → IsOwned asked (state g new)))

  -- a fault leaves the tables as they were
  abbrev pub Fails : {A F : Type 0} → Result A F → Type 0
  Fails result = HasCleanDisk (state g new) → IsReady g old → OnErr result (Same (state g old) (state g new))

  abbrev pub Stops : Option Owner → Type 0
  Stops asked = HasCleanDisk (state g new) → IsReady g old → LeavesTied asked (state g old) (state g new)

  -- their version stays, also where a crash leaves them
  abbrev pub KeepsVersion : Type 0
  KeepsVersion = HasCleanDisk (state g new) → IsReady g old → VersionStays (state g old) (state g new)

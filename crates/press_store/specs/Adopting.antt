-- What the steps of an adoption leave.
use Rattle.std.specs.Prelude.{◌≡◌, ℤ, pos, Bool, List, [], ◌∷◌, IsTrue, Result, IfOk, OnOk, OnErr}
use Rattle.sqlite.specs.declared.types.Value.TheVariants.{Int}
use Rattle.sqlite.specs.declared.error.Error.{Error}
use Rattle.sqlite.specs.Store.{Ghosts}
use Rattle.sqlite.specs.Order.{Row, column}
use Rattle.sqlite.specs.Tree.{Trees}
use Rattle.sqlite.specs.Schema.{Schema}
use Rattle.sqlite.specs.State.{State, HasCleanDisk, IsUnchanged, IsLive}
use Rattle.sqlite.specs.Held.{Held, state}
use Rattle.press_store.specs.Tables.{Layout, HasOld, no_schema, schema_of}
use Rattle.press_store.specs.Attempt.{Ready, Stays}
use Rattle.press_store.specs.Adopted.{Adopts, HandsBack}

-- one row, which begins with a number
abbrev pub IsOneNumber : List Row → Type 0
IsOneNumber rows = (row : Row) × (id : ℤ) × (rows ≡ row ∷ []) × (column row 0 ≡ Int id)

-- one row, which begins with the number 2
abbrev pub IsOneTwo : List Row → Type 0
IsOneTwo rows = (row : Row) × (rows ≡ row ∷ []) × (column row 0 ≡ Int (pos 2))

-- what a query leaves that may have failed
pub record OnlyLooks (old new : State) : Type 0 where
  pub stays : Stays old new
  pub limit : new.step_limit ≡ old.step_limit
  pub crash : (db : Trees) → new.may_leave db → old.may_leave db

-- nothing is in the database
abbrev pub IsNothing : Schema → Type 0
IsNothing schema = schema ≡ no_schema

-- the tables of a store stand behind that of version 1
abbrev pub IsMoved : Schema → Type 0
IsMoved schema = (l : Layout) × HasOld l × (schema ≡ schema_of l)

-- on a database with tables of a kind, whatever their rows are
module _ {S : Type 0} (g : Ghosts S) (Has : Schema → Type 0) (old new : Held S) where
  abbrev pub LooksAt : Type 0
  LooksAt = HasCleanDisk (state g new) → Has (state g old).now.schema → OnlyLooks (state g old) (state g new)

  -- where it is answered, it has changed nothing
  abbrev pub Shows : {A : Type 0} → Result A Error → Type 0
  Shows result = HasCleanDisk (state g new) → Has (state g old).now.schema → OnOk result (IsUnchanged (state g old) (state g new))

  -- a test that is passed says this of the rows
  abbrev pub Tells : (Trees → Type 0) → Result Bool Error → Type 0
  Tells Is result = HasCleanDisk (state g new) → Has (state g old).now.schema → IsLive (state g old) → IfOk result (λ found. IsTrue found → Is (state g old).now.trees)

  abbrev pub IsPassed : Result Bool Error → Type 0
  IsPassed result = HasCleanDisk (state g new) → Has (state g old).now.schema → IfOk result (λ found. IsTrue found → Ready (state g new) × Adopts (state g old) (state g new))

  abbrev pub OnlyReads : Type 0
  OnlyReads = HasCleanDisk (state g new) → Has (state g old).now.schema → HandsBack (state g old) (state g new)

  abbrev pub AdoptsFrom : {A F : Type 0} → Result A F → Type 0
  AdoptsFrom result = HasCleanDisk (state g new) → Has (state g old).now.schema → OnOk result (Ready (state g new) × Adopts (state g old) (state g new))

  abbrev pub HandsBackFrom : {A F : Type 0} → Result A F → Type 0
  HandsBackFrom result = HasCleanDisk (state g new) → Has (state g old).now.schema → OnErr result (HandsBack (state g old) (state g new))

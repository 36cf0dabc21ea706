-- What an event's turn did to a store: the one word for it, from an acceptor's request to a whole node (own).
use Rattle.std.specs.Prelude.{◌≡◌, ◌⊎◌, IsTrue, Option, None, Some, List, [], ◌∷◌, Result, IfOk}
use Rattle.press_acceptor.specs.Seen.{Call, Seen, Counts, SavesIf}
use Rattle.press_acceptor.specs.StoreMap.{StoreMap, Save}
use Rattle.press_acceptor.specs.declared.fault.StoreFault.{StoreFault}
use Rattle.press_acceptor.specs.declared.fault.StoreFault.TheVariants.{NoMemory}

-- What a turn is to do with its store.
pub record Plan : Type 1 where
  -- it asks the store by some of these calls, in this order
  pub calls : List Call
  -- where it may take memory of its own, over a store that keeps this
  pub takes : StoreMap → Type 0
  -- what it saves, if anything, over a store that keeps this
  pub save : StoreMap → Option Save

-- A store before and after.
pub record StoreMove : Type 1 where
  pub old : Seen
  pub new : Seen
  -- it is the very same
  pub same : Type 0

abbrev pub store_move : {S : Type 0} → (S → Seen) → S → S → StoreMove
store_move seen old new = record { old = seen old; new = seen new; same = new ≡ old }

-- what the store answers counts: where it isn't asked always, else where it is honest
abbrev pub Trusts : List Call → StoreMove → Type 0
Trusts [] store = Unit {0}
Trusts (call ∷ calls) store = store.new.is_honest

-- over a store whose answers count, a turn that is done gives what is meant
abbrev pub Says : {T M F : Type 0} → List Call → (T → M) → (StoreMap → M) → StoreMove → Result T F → Type 0
Says calls shows means store result = Trusts calls store → IfOk result (λ said. shows said ≡ means store.old.kept)

-- one of these calls was the last, and ended so
abbrev pub LastEnds : List Call → Seen → Option StoreFault → Type 0
LastEnds [] new fault = ⊥
LastEnds (call ∷ calls) new fault = new.ends call fault ⊎ LastEnds calls new fault

-- The fault that is returned is the one that the store answered last; or it is the turn's own running out of memory, after the store had answered well.
abbrev pub Ends : List Call → Type 0 → Seen → Option StoreFault → Type 0
Ends calls takes new None = LastEnds calls new None
Ends calls takes new (Some fault) = LastEnds calls new (Some fault) ⊎ ((fault ≡ NoMemory) × takes × LastEnds calls new None)

-- A turn that asks the store.
pub record Asked (calls : List Call) (takes : StoreMap → Type 0) (save : StoreMap → Option Save) (store : StoreMove) (fault : Option StoreFault) : Type 0 where
  pub honest : store.new.is_honest → store.old.is_honest
  pub counts : Counts store.old store.new fault
  pub ends : Ends calls (store.new.is_honest → takes store.old.kept) store.new fault
  -- a store that answered is open
  pub is_open : fault ≡ None → store.new.is_honest → IsTrue store.new.is_open
  -- done, the store is as the save leaves it; ended by a fault, it is as before the save or after it
  pub saves : store.new.is_honest → SavesIf (save store.old.kept) store.old store.new fault

-- a turn that doesn't ask the store may meet out of memory of its own alone
abbrev pub FailsAlone : Type 0 → Option StoreFault → Type 0
FailsAlone takes None = Unit {0}
FailsAlone takes (Some fault) = (fault ≡ NoMemory) × takes

abbrev pub TurnedBy : List Call → (StoreMap → Type 0) → (StoreMap → Option Save) → StoreMove → Option StoreFault → Type 0
TurnedBy [] takes save store fault = store.same × FailsAlone (takes store.old.kept) fault
TurnedBy (call ∷ calls) takes save store fault = Asked (call ∷ calls) takes save store fault

-- What a turn by this plan did to its store: it was done, or the fault ended it.
abbrev pub Turned : Plan → StoreMove → Option StoreFault → Type 0
Turned plan store fault = TurnedBy plan.calls plan.takes plan.save store fault

-- *Delivery*: how commands go to the members of a cluster, and what becomes of each (own). A member
-- proposes its commands in the order in which it took them, and one
-- leaves its queue once it is applied; so commands are chosen in their order if a member gets none
-- before it has all in front of it, but for those that have an outcome.
use Rattle.std.specs.Prelude.{ℕ, ◌≡◌, ◌<◌, ◌⊎◌, List, [], ◌∷◌, Option, Some, slice_get}
use Rattle.press_apply.specs.declared.command.Stamped.{Stamped}
use Rattle.press_site.specs.declared.token.Outcome.{Outcome}
use Rattle.press_site.specs.declared.token.Outcome.TheVariants as outcome
use Rattle.press_client.specs.declared.ending.Ending.{Ending}
use Rattle.press_client.specs.declared.ending.Ending.TheVariants.{Done, NotTaken, Refused}
use Rattle.press_client.specs.declared.newsroom.FormAnswer.TheVariants as taken
use Rattle.press_client.specs.declared.newsroom.OutcomeAnswer.TheVariants as told
use Rattle.press_client.specs.Saying.{Has, Said, Says, asks, sends}

abbrev pub ending_of : Outcome → Ending
ending_of (outcome.Done id) = Done id
ending_of (outcome.Refused fault) = Refused fault

-- ---- what was said, the last first

-- the member took the command, to be chosen
abbrev pub IsTaken : List Said → ℕ → Stamped → Type 0
IsTaken said place command = Has said (sends place command taken.Queued)

-- a member said what became of the command, by its token
abbrev pub HasOutcome : List Said → Stamped → Outcome → Type 0
HasOutcome said command outcome = (place : ℕ) × Has said (asks place command.token (told.Outcome outcome))

-- a member refused the command, with a status
abbrev pub IsRefused : List Said → Stamped → ℕ → Type 0
IsRefused said command status = (place : ℕ) × Has said (sends place command (taken.Refused status))

-- this became of the command
abbrev pub Ends : List Said → Stamped → Ending → Type 0
Ends said command (Done id) = HasOutcome said command (outcome.Done id)
Ends said command (Refused fault) = HasOutcome said command (outcome.Refused fault)
Ends said command (NotTaken status) = IsRefused said command status

-- ---- the order

-- the command has ended, or that member took it
abbrev pub IsSettled : List Said → ℕ → Stamped → Type 0
IsSettled said place command = ((ending : Ending) × Ends said command ending) ⊎ IsTaken said place command

-- the command is one of these, and each in front of it is settled by now
abbrev pub IsNext : List Stamped → List Said → ℕ → Stamped → Type 0
IsNext commands said place command =
    (i : ℕ) × (slice_get commands i ≡ Some command) × ((j : ℕ) (earlier : Stamped) → j < i → slice_get commands j ≡ Some earlier → IsSettled said place earlier)

-- each command that went to a member was next for it
abbrev pub AreInOrder : List Stamped → List Said → Type 0
AreInOrder commands [] = Unit {0}
AreInOrder commands (sends place command taken ∷ said) = IsNext commands said place command × AreInOrder commands said
AreInOrder commands (asks place token told ∷ said) = AreInOrder commands said

-- each of these is the ending of the command at its place
abbrev pub AreEndings : List Stamped → List Said → List Ending → Type 0
AreEndings commands said endings =
    (i : ℕ) (command : Stamped) (ending : Ending) → slice_get commands i ≡ Some command → slice_get endings i ≡ Some ending → Ends said command ending

-- What was said between two moments: commands in order, and what became of the first of them.
pub record Delivers (commands : List Stamped) (endings : List Ending) (old new : Option (List Said)) : Type 0 where
  pub said : List Said
  pub says : Says old new said
  pub in_order : AreInOrder commands said
  pub ended : AreEndings commands said endings

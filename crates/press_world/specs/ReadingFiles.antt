-- What a reading of a file from a reader answers (own).
use Rattle.std.specs.Prelude.{◌≡◌, ℕ, List, Option, Some, None, Result, Ok, Err}
use Rattle.press_text.specs.Gives.{Gives}
use Rattle.press_kit.specs.declared.place.Place.{Place}
use Rattle.press_world.specs.declared.replay_fault.ReplayFault.{ReplayFault}
use Rattle.press_world.specs.declared.replay_fault.ReplayFault.TheVariants.{NoMemory, ReadFault, WriteFault, BadSchedule}

-- BadSchedule is returned only where the bytes are bad at a place; a read may fail and memory run
-- out at any time.
abbrev pub Refuses : {Y : Type 0} → ReplayFault → Result Y Place → Type 0
Refuses NoMemory found = Unit {0}
Refuses ReadFault found = Unit {0}
Refuses BadSchedule found = (place : Place) × (found ≡ Err place)
Refuses WriteFault found = ⊥

-- The bytes that a reader has left: those that contracts see, and of one without such some bytes.
abbrev pub Has : Option (List ℕ) → List ℕ → Type 0
Has None input = Unit {0}
Has (Some told) input = input ≡ told

unfoldable pub ReadsAs : {Y : Type 0} → (List ℕ → Result Y Place) → Option (List ℕ) → Result Y ReplayFault → Type 0
ReadsAs meaning remaining result = (input : List ℕ) × Has remaining input × Gives Refuses Ok result (meaning input)

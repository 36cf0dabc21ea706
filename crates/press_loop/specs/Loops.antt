-- What a loop over sockets writes: the transcript of a replay, of which a failed socket leaves a
-- prefix (own).
use Rattle.std.specs.Prelude.{◌≡◌, ℕ, List, Option, Result, Ok, Err}
use Rattle.std.specs.Io.KnownBytes.{Appends}
use Rattle.press_kit.specs.declared.place.Place.{Place}
use Rattle.press_text.specs.Streams.{AppendsFront}
use Rattle.press_world.specs.ReadingFiles.{Has}
use Rattle.press_world.specs.declared.replay_fault.ReplayFault.{ReplayFault}
use Rattle.press_world.specs.declared.replay_fault.ReplayFault.TheVariants.{NoMemory, ReadFault, WriteFault, BadSchedule}
use Rattle.press_world.specs.declared.step.Step.{Step}

-- The transcript, or a prefix of it where a socket or a write failed or memory ran out; nothing
-- where the file is bad or couldn't be read.
abbrev pub WritesFront : {T : Type 0} → (ℕ × List Step → List ℕ) → Result (ℕ × List Step) Place → Option (List ℕ) → Option (List ℕ) → Result T ReplayFault → Type 0
WritesFront shows (Ok schedule) old new (Ok done) = Appends old new (shows schedule)
WritesFront shows (Ok schedule) old new (Err NoMemory) = AppendsFront old new (shows schedule)
WritesFront shows (Ok schedule) old new (Err ReadFault) = AppendsFront old new (shows schedule)
WritesFront shows (Ok schedule) old new (Err WriteFault) = AppendsFront old new (shows schedule)
WritesFront shows (Ok schedule) old new (Err BadSchedule) = ⊥
WritesFront shows (Err place) old new (Ok done) = ⊥
WritesFront shows (Err place) old new (Err NoMemory) = new ≡ old
WritesFront shows (Err place) old new (Err ReadFault) = new ≡ old
WritesFront shows (Err place) old new (Err WriteFault) = ⊥
WritesFront shows (Err place) old new (Err BadSchedule) = new ≡ old

-- of the bytes that the reader has left
abbrev pub Loops : {T : Type 0} → (List ℕ → Result (ℕ × List Step) Place) → (ℕ × List Step → List ℕ) → Option (List ℕ) → Option (List ℕ) → Option (List ℕ) → Result T ReplayFault → Type 0
Loops reads shows remaining old new result = (input : List ℕ) × Has remaining input × WritesFront shows (reads input) old new result

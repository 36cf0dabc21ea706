-- A schedule's transcript: the line of each step as it is played, from the world in which every
-- node is new, and the last line; and what a replay of a file writes (own).
use Rattle.std.specs.Prelude.{ℕ, ◌+◌, ◌≡◌, Option, None, Some, option_map, List, [], ◌∷◌, ◌++◌, map, Result, Ok, Err}
use Rattle.std.specs.Io.KnownBytes.{Appends}
use Rattle.press_callbacks.specs.Kits.{KitView}
use Rattle.press_kit.specs.declared.place.Place as file
use Rattle.press_text.specs.Streams.{AppendsFront}
use Rattle.press_world.specs.ReadingFiles.{Has}
use Rattle.press_world.specs.Refusing.{message_numbered, step_refusal}
use Rattle.press_world.specs.Stored.{StoredWorld, new_stored, stored_step}
use Rattle.press_world.specs.Telling.{applied_count_at, step_result}
use Rattle.press_world.specs.Transcript.{end_line, step_line}
use Rattle.press_world.specs.declared.fault.WorldFault.{WorldFault}
use Rattle.press_world.specs.declared.played.Played.{Played}
use Rattle.press_world.specs.declared.replay_fault.ReplayFault.{ReplayFault}
use Rattle.press_world.specs.declared.replay_fault.ReplayFault.TheVariants.{NoMemory, ReadFault, WriteFault, BadSchedule}
use Rattle.press_world.specs.declared.step.Step.{Step}
use Rattle.press_world.specs.declared.step.Step.TheVariants.{Submit, Wake, Deliver, Restart, Get}

-- ---- a transcript

abbrev pub outcome_where : Option WorldFault → Played → Result Played WorldFault
outcome_where None played = Ok played
outcome_where (Some fault) played = Err fault

-- what comes of a step of n nodes of this kit
abbrev pub outcome : KitView → ℕ → StoredWorld → Step → Result Played WorldFault
outcome kit n s x = outcome_where (step_refusal s x) (step_result kit s (stored_step n s x) x)

-- the node that a delivered message is to
abbrev pub to_in : StoredWorld → Step → Option ℕ
to_in s (Deliver number cut) = option_map (λ message. message.to) (message_numbered s number)
to_in s (Submit number command cut) = None
to_in s (Wake number cut) = None
to_in s (Restart number) = None
to_in s (Get number target) = None

-- the line of a step
abbrev pub line_of : KitView → ℕ → ℕ → StoredWorld → Step → List ℕ
line_of kit n number s x = step_line (to_in (stored_step n s x) x) number x (outcome kit n s x)

-- the lines of the steps from this one on, and the last line
abbrev pub lines : KitView → ℕ → ℕ → StoredWorld → List Step → List ℕ
lines kit n number s [] = end_line (map applied_count_at s.places)
lines kit n number s (x ∷ xs) = line_of kit n number s x ++ lines kit n (number + 1) (stored_step n s x) xs

-- of a schedule: so many nodes, and their steps
abbrev pub transcript : KitView → ℕ × List Step → List ℕ
transcript kit schedule = lines kit schedule.0 1 (new_stored schedule.0) schedule.1

-- ---- a replay

-- all of these bytes, or a prefix of them where a write failed or memory ran out
abbrev pub WritesLines : {T E : Type 0} → List ℕ → Option (List ℕ) → Option (List ℕ) → Result T E → Type 0
WritesLines bytes old new (Ok done) = Appends old new bytes
WritesLines bytes old new (Err fault) = AppendsFront old new bytes

-- The transcript, or a prefix of it where a write failed or memory ran out; nothing where the file
-- is bad or couldn't be read.
abbrev pub Writes : {T : Type 0} → (ℕ × List Step → List ℕ) → Result (ℕ × List Step) file.Place → Option (List ℕ) → Option (List ℕ) → Result T ReplayFault → Type 0
Writes shows (Ok schedule) old new (Ok done) = Appends old new (shows schedule)
Writes shows (Ok schedule) old new (Err NoMemory) = AppendsFront old new (shows schedule)
Writes shows (Ok schedule) old new (Err ReadFault) = new ≡ old
Writes shows (Ok schedule) old new (Err WriteFault) = AppendsFront old new (shows schedule)
Writes shows (Ok schedule) old new (Err BadSchedule) = ⊥
Writes shows (Err place) old new (Ok done) = ⊥
Writes shows (Err place) old new (Err NoMemory) = new ≡ old
Writes shows (Err place) old new (Err ReadFault) = new ≡ old
Writes shows (Err place) old new (Err WriteFault) = ⊥
Writes shows (Err place) old new (Err BadSchedule) = new ≡ old

-- of the bytes that the reader has left
abbrev pub Replays : {T : Type 0} → (List ℕ → Result (ℕ × List Step) file.Place) → (ℕ × List Step → List ℕ) → Option (List ℕ) → Option (List ℕ) → Option (List ℕ) → Result T ReplayFault → Type 0
Replays reads shows remaining old new result = (input : List ℕ) × Has remaining input × Writes shows (reads input) old new result

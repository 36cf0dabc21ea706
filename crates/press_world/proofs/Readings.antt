-- What a reading of a file answers for what a reader gave.
use Rattle.std.proofs.Common.{◌≡◌, refl, subst, ℕ, ◌+◌, ◌<◌, arith, List, [], length, IfSome}
use Rattle.std.proofs.Math.ListN.{replicate}
use Rattle.std.proofs.lemmas.Bool.{lt-leb}
use Rattle.std.proofs.lemmas.List.{length-replicate}
use Rattle.std.specs.Prelude.{Option, Some, None, Result, Ok, Err}
use Rattle.press_text.specs.declared.streams.ReadLimitedFault.{ReadLimitedFault}
use Rattle.press_text.specs.declared.streams.ReadLimitedFault.TheVariants as reading
use Rattle.press_text.specs.Gives.{Gives}
use Rattle.press_kit.specs.declared.fault.KitFileFault.{KitFileFault}
use Rattle.press_kit.specs.declared.fault.KitFileFault.TheVariants as file
use Rattle.press_kit.specs.declared.place.Place.{Place}
use Rattle.press_kit.specs.declared.place.Place.TheVariants as place
use Rattle.press_kit.specs.Refusals as kit_file
use Rattle.press_kit.specs.KitFile.{file_in, file_limit}
use Rattle.press_kit.specs.SiteFile.{site_in}
use Rattle.press_world.specs.declared.replay_fault.ReplayFault.{ReplayFault}
use Rattle.press_world.specs.declared.replay_fault.ReplayFault.TheVariants.{NoMemory, ReadFault, BadSchedule}
use Rattle.press_world.specs.ReplayFaults.{fault_of_file, fault_of_reading}
use Rattle.press_world.specs.ReadingFiles.{Has, ReadsAs, Refuses}
use Rattle.press_world.specs.ScheduleFile.{schedule_in}

-- ---- files that are too long

-- a file of more bytes than a file may have gives nothing
abbrev pub RefusesLong : {Y : Type 0} → (List ℕ → Result Y Place) → Type 0
RefusesLong meaning = (bytes : List ℕ) → file_limit < length bytes → meaning bytes ≡ Err place.File

pub long_site : RefusesLong site_in
unfolding site_in file_in
long_site bytes over = rw (lt-leb (length bytes) file_limit over) refl

pub long_schedule : (kits : ℕ) → RefusesLong (schedule_in kits)
unfolding schedule_in file_in
long_schedule kits bytes over = rw (lt-leb (length bytes) file_limit over) refl

long_one : (n : ℕ) → (xs : List ℕ) × (n < length xs)
long_one n =
    let zero : ℕ = 0 in
    let is : length {A = ℕ} (replicate (n + 1) zero) ≡ n + 1 = length-replicate (n + 1) zero in
    (replicate (n + 1) zero, omega (arith, is))

-- ---- readings

has_read : (remaining : Option (List ℕ)) (bytes : List ℕ) → IfSome remaining (λ input. bytes ≡ input) → Has remaining bytes
has_read None bytes is = tt
has_read (Some told) bytes is = is

-- there are bytes that a reader may have left
some_input : (remaining : Option (List ℕ)) → (input : List ℕ) × Has remaining input
some_input None = ([], tt)
some_input (Some told) = (told, refl)

-- and long ones, where those that it tells are long
some_long : (remaining : Option (List ℕ)) → IfSome remaining (λ input. file_limit < length input) → (input : List ℕ) × Has remaining input × (file_limit < length input)
some_long None over = let long = long_one file_limit in (long.0, tt, long.1)
some_long (Some told) over = (told, refl, over)

module _ {Y : Type 0} (meaning : List ℕ → Result Y Place) (remaining : Option (List ℕ)) where
  unread : (fault : ReplayFault) → ((found : Result Y Place) → Refuses fault found) → ReadsAs meaning remaining (Err fault)
  unfolding ReadsAs
  unread fault misses = let some = some_input remaining in (some.0, some.1, misses (meaning some.0))

  too_long : RefusesLong meaning → IfSome remaining (λ input. file_limit < length input) → ReadsAs meaning remaining (Err BadSchedule)
  unfolding ReadsAs
  too_long refuses over = let some = some_long remaining over in (some.0, some.1, (place.File, refuses some.0 some.2))

  pub not_read : (fault : ReadLimitedFault) → RefusesLong meaning → (fault ≡ reading.TooLong → IfSome remaining (λ input. file_limit < length input))
      → ReadsAs meaning remaining (Err (fault_of_reading fault))
  not_read reading.NoMemory refuses over = unread NoMemory (λ _. tt)
  not_read reading.ReadFault refuses over = unread ReadFault (λ _. tt)
  not_read reading.TooLong refuses over = too_long refuses (over refl)

  was_read : (bytes : List ℕ) (result : Result Y ReplayFault) → IfSome remaining (λ input. bytes ≡ input) → Gives Refuses Ok result (meaning bytes) → ReadsAs meaning remaining result
  unfolding ReadsAs
  was_read bytes result is gives = (bytes, has_read remaining bytes is, gives)

  pub found : (bytes given : List ℕ) (x : Y) → given ≡ bytes → IfSome remaining (λ input. bytes ≡ input) → meaning given ≡ Ok x → ReadsAs meaning remaining (Ok x)
  found bytes given x same is gives = was_read bytes (Ok x) is (subst (λ (b : List ℕ). meaning b ≡ Ok x) same gives)

  pub file_missed : (bytes given : List ℕ) (fault : KitFileFault) → given ≡ bytes → IfSome remaining (λ input. bytes ≡ input)
      → kit_file.Refuses fault (meaning given) → ReadsAs meaning remaining (Err (fault_of_file fault))
  file_missed bytes given file.NoMemory same is misses = was_read bytes (Err NoMemory) is tt
  file_missed bytes given (file.BadKitFile place) same is misses =
      was_read bytes (Err BadSchedule) is (place, subst (λ (b : List ℕ). meaning b ≡ Err place) same misses)

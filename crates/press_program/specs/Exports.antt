-- What a run comes to that makes site files of a member's log (own).
use Rattle.std.specs.Prelude.{ℕ, ◌≡◌, ◌+◌, suc, List, [], ◌∷◌, ◌++◌, nat_eq, if◌then◌else◌, Option, codes, decimal}
use Rattle.std.specs.Io.KnownBytes.{Appends, Keeps}
use Rattle.press_client.specs.Exporting.{files_of}
use Rattle.press_client.specs.declared.entry.LogEntry.{LogEntry}
use Rattle.press_client.specs.declared.site_files.Limits.{Limits}
use Rattle.press_client.specs.declared.site_files.SiteFile.{SiteFile}
use Rattle.press_kit.specs.KitFile.{file_limit}
use Rattle.press_kit.specs.SiteFile.{command_limit}
use Rattle.press_text.specs.Streams.{AppendsFront}
use Rattle.press_world.specs.declared.replay_fault.ReplayFault.{ReplayFault}
use Rattle.press_world.specs.declared.replay_fault.ReplayFault.TheVariants as fault
use Rattle.press_program.specs.KitFiles.{fault_line}
use Rattle.press_program.specs.Words.{Export}
use Rattle.press_program.specs.declared.exporting.Unmade.{Unmade}
use Rattle.press_program.specs.declared.exporting.Unmade.TheVariants.{NoMemory, Away, NoLog, Exists, Unwritten, Unprinted}

-- as much as a site file takes
abbrev pub limits : Limits
limits = record { bytes = file_limit; commands = command_limit }

-- ---- files

unfoldable pub numbered_name : List ℕ → ℕ → List ℕ
numbered_name file number = file ++ (codes "." ++ decimal number)

-- by a place from 0: those behind the first have their number as well
abbrev pub name_of : List ℕ → ℕ → List ℕ
name_of file place = if nat_eq place 0 then file else numbered_name file (place + 1)

unfoldable pub line : List ℕ → ℕ → List ℕ
line name commands = name ++ (codes ": " ++ (decimal commands ++ codes " commands\n"))

-- a line for each, from a place on
abbrev pub lines_from : List ℕ → ℕ → List SiteFile → List ℕ
lines_from file place [] = []
lines_from file place (f ∷ fs) = line (name_of file place) f.commands ++ lines_from file (suc place) fs

-- ---- faults

abbrev pub fault_of : Unmade → ReplayFault
fault_of NoMemory = fault.NoMemory
fault_of Away = fault.ReadFault
fault_of NoLog = fault.ReadFault
fault_of (Exists place) = fault.WriteFault
fault_of (Unwritten place) = fault.WriteFault
fault_of Unprinted = fault.WriteFault

-- what it is about
abbrev pub subject_of : Export → Unmade → List ℕ
subject_of export NoMemory = codes "out of memory"
subject_of export Away = export.0
subject_of export NoLog = export.0
subject_of export (Exists place) = name_of export.1 place
subject_of export (Unwritten place) = name_of export.1 place
subject_of export Unprinted = codes "the names of the files"

abbrev pub words_of : Unmade → List ℕ
words_of NoMemory = codes ""
words_of Away = codes " is away"
words_of NoLog = codes " shows no log, as one does that is served with --editor"
words_of (Exists place) = codes " is there already"
words_of (Unwritten place) = codes " cannot be written"
words_of Unprinted = codes " cannot be written"

unfoldable pub reason_line : List ℕ → List ℕ → List ℕ
reason_line subject words = codes "press: " ++ (subject ++ (words ++ codes "\n"))

abbrev pub reason_of : Export → Unmade → List ℕ
reason_of export why = reason_line (subject_of export why) (words_of why)

-- ---- a run

-- the lines of the files that some log gives: contracts see no bytes of sockets and files
abbrev pub lines_of : Export → List LogEntry → List ℕ
lines_of export entries = lines_from export.1 0 (files_of limits entries)

-- The files are written, and a line for each is printed; or a fault is told, with a reason, as far
-- as the errors take them.
abbrev pub Makes : Export → ℕ → Option (List ℕ) → Option (List ℕ) → Option (List ℕ) → Option (List ℕ) → Type 0
Makes export result out out' err err' = (entries : List LogEntry) × (result ≡ 0) × Appends out out' (lines_of export entries) × Keeps err err'

abbrev pub TellsUnmade : Export → ℕ → Option (List ℕ) → Option (List ℕ) → Option (List ℕ) → Option (List ℕ) → Type 0
TellsUnmade export result out out' err err' =
    (entries : List LogEntry) × (why : Unmade) × (by_then : Option (List ℕ)) × (result ≡ 2) × AppendsFront out out' (lines_of export entries)
    × AppendsFront err by_then (fault_line (fault_of why)) × AppendsFront by_then err' (reason_of export why)

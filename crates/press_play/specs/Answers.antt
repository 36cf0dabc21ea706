-- What is written for a play file: its lines, or a line that tells its fault (own).
use Rattle.std.specs.Prelude.{◌≡◌, ◌⊎◌, ℕ, List, Option, Some, None, Result, Ok, Err, String, string_bytes, codes}
use Rattle.std.specs.declared.alloc.AllocError.{AllocError}
use Rattle.std.specs.Io.KnownBytes.{Appends}
use Rattle.serde_json.specs.Data.{Data, string, number, unsigned, object, member, no_members}
use Rattle.press_text.specs.declared.streams.WriteFault.{WriteFault}
use Rattle.press_text.specs.Streams.{AppendsFront}
use Rattle.press_kit.specs.declared.place.Place.{Place}
use Rattle.press_kit.specs.Places.{place_text}
use Rattle.press_play.specs.declared.answered.Answered.{Answered}
use Rattle.press_play.specs.declared.fault.PlayFault.{PlayFault}
use Rattle.press_play.specs.declared.fault.PlayFault.TheVariants.{NoMemory, ReadFault}
use Rattle.press_play.specs.Faults.{fault_number, place_in}
use Rattle.press_play.specs.Lines.{line}
use Rattle.press_play.specs.Played.{played_in}

abbrev pub fault_data_at : ℕ → Option Place → Data
fault_data_at n None = object (member (codes "fault") (number (unsigned n)) no_members)
fault_data_at n (Some place) = object (member (codes "at") (string (place_text place)) (member (codes "fault") (number (unsigned n)) no_members))

abbrev pub fault_data : PlayFault → Data
fault_data f = fault_data_at (fault_number f) (place_in f)

-- the fault where there is one, and what is written
abbrev pub answer_of : Result (List ℕ) PlayFault → Answered
answer_of (Ok lines) = record { fault = None; text = lines }
answer_of (Err fault) = record { fault = Some fault; text = line (fault_data fault) }

-- where the answer can't be made for lack of memory, that is reported
abbrev pub or_no_memory : Result Answered AllocError → Answered
or_no_memory (Ok a) = a
or_no_memory (Err e) = answer_of (Err NoMemory)

-- the bytes of the lines that were read
abbrev pub bytes_in : {A : Type 0} → Result (String A) PlayFault → Result (List ℕ) PlayFault
bytes_in (Ok text) = Ok (string_bytes text)
bytes_in (Err fault) = Err fault

-- out of memory and a failed read come from outside, and may come at any file
abbrev pub Answers : List ℕ → Answered → Type 0
Answers input a = (a ≡ answer_of (played_in input)) ⊎ ((a ≡ answer_of (Err NoMemory)) ⊎ (a ≡ answer_of (Err ReadFault)))

-- the message about a fault met before a file's text: it, or out of memory
abbrev pub Tells : PlayFault → Answered → Type 0
Tells fault a = (a ≡ answer_of (Err fault)) ⊎ (a ≡ answer_of (Err NoMemory))

-- the text went out whole, or a prefix of it where the write failed
abbrev pub Writes : Answered → Option (List ℕ) → Option (List ℕ) → Result (Option PlayFault) WriteFault → Type 0
Writes a out out' (Ok fault) = (fault ≡ a.fault) × Appends out out' a.text
Writes a out out' (Err f) = AppendsFront out out' a.text

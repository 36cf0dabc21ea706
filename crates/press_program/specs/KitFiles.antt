-- The kit files of a run: the message about one that can't be used, and the kit that they give
-- (own).
use Rattle.std.specs.Prelude.{◌≡◌, ℕ, List, ◌++◌, map, [], string_bytes, Option, Result, Ok, Err, codes, decimal}
use Rattle.std.specs.Io.KnownBytes.{Keeps}
use Rattle.std.specs.List.{Contains}
use Rattle.press_callbacks.specs.Kits.{KitView, view_of}
use Rattle.press_demonstration.specs.Demonstration.{demonstration}
use Rattle.press_kit.specs.declared.kit_parts.KitParts.{KitParts}
use Rattle.press_kit.specs.declared.kit_parts.Scripted.{Scripted}
use Rattle.press_kit.specs.declared.place.Place.{Place}
use Rattle.press_lint.specs.Files.{TellsFiles}
use Rattle.press_lint.specs.Joints.{File, Joint, files_of, read_together}
use Rattle.press_program.specs.declared.kitting.KitSource.{KitSource}
use Rattle.press_program.specs.declared.kitting.KitSource.TheVariants.{Demonstration, OfFiles}
use Rattle.press_program.specs.declared.kitting.KitSourceFault.{KitSourceFault}
use Rattle.press_program.specs.declared.kitting.KitSourceFault.TheVariants as kit
use Rattle.press_text.specs.Streams.{AppendsFront}
use Rattle.press_world.specs.declared.replay_fault.ReplayFault.{ReplayFault}
use Rattle.press_world.specs.declared.replay_fault.ReplayFault.TheVariants.{NoMemory, ReadFault, WriteFault, BadSchedule}

abbrev pub fault_line : ReplayFault → List ℕ
fault_line NoMemory = codes "press: fault 0\n"
fault_line ReadFault = codes "press: fault 40\n"
fault_line WriteFault = codes "press: fault 42\n"
fault_line BadSchedule = codes "press: fault 72\n"

-- the view of a kit that was read
abbrev pub view_in : KitParts → KitView
view_in kit = view_of (map (λ (c : Scripted). (c.id, c.script)) kit.callbacks) kit.plugins

-- the kit of files, where each of them is one
abbrev pub view_where : Result Joint (File × Place) → KitView
view_where (Ok joint) = view_in joint.kit
view_where (Err bad) = record { scripts = []; plugins = [] }

-- the kit of a run
abbrev pub view_of_source : KitSource → KitView
view_of_source Demonstration = demonstration
view_of_source (OfFiles files) = view_where (read_together (files_of files.items))

-- files of these names, with whatever bytes
abbrev pub AreNamed : List (List ℕ) → List File → Type 0
AreNamed names files = map (λ (f : File). f.name) files ≡ names

-- in front of the name of a file with a slip, and the message about that
abbrev pub slip_front : List ℕ
slip_front = codes "press: warning in "

abbrev pub kit_line : List ℕ → KitSourceFault → List ℕ
kit_line file kit.NoMemory = fault_line NoMemory
kit_line file kit.ReadFault = codes "press: fault 40 in " ++ (file ++ codes "\n")
kit_line file kit.TooLong = codes "press: fault 73 in " ++ (file ++ codes ": longer than 4194304 bytes\n")
kit_line file (kit.Refused number text) = codes "press: fault " ++ (decimal number ++ (codes " in " ++ (file ++ (codes ": " ++ (string_bytes text ++ codes "\n")))))

-- of a file that is read by itself
abbrev pub MeetsAlone : KitSourceFault → Type 0
MeetsAlone kit.NoMemory = Unit {0}
MeetsAlone kit.ReadFault = Unit {0}
MeetsAlone kit.TooLong = Unit {0}
MeetsAlone (kit.Refused number text) = ⊥

-- refused files are reported as they are; out of memory, and of each file a failed read or that it
-- is too long, may be met at any time
abbrev pub MeetsFault : List (List ℕ) → List ℕ → KitSourceFault → Type 0
MeetsFault names file kit.NoMemory = Unit {0}
MeetsFault names file kit.ReadFault = Contains names file
MeetsFault names file kit.TooLong = Contains names file
MeetsFault names file (kit.Refused number text) = (files : List File) × AreNamed names files × TellsFiles (read_together files) file number (string_bytes text)

-- a fault is reported with its file, or that there is no memory for that, and nothing else is done
abbrev pub RefusesKit : List (List ℕ) → ℕ → Option (List ℕ) → Option (List ℕ) → Option (List ℕ) → Option (List ℕ) → Type 0
RefusesKit names result out out' err err' = (result ≡ 2) × Keeps out out' × (file : List ℕ) × (fault : KitSourceFault) × MeetsFault names file fault × AppendsFront err err' (kit_line file fault)

-- What a run comes to that prints the next kit of two kit files (own).
use Rattle.std.specs.Prelude.{◌≡◌, ◌⊎◌, ℕ, List, [], ◌∷◌, ◌++◌, Option, String, codes, string_bytes}
use Rattle.std.specs.declared.alloc.Global.{Global}
use Rattle.std.specs.Io.KnownBytes.{Appends, Keeps}
use Rattle.press_lint.specs.Files.{GivesSlips}
use Rattle.press_lint.specs.Joints.{File, read_together}
use Rattle.press_text.specs.Streams.{AppendsFront}
use Rattle.press_upgrade.specs.Next.{IsNext}
use Rattle.press_upgrade.specs.declared.next.NextKit.{NextKit}
use Rattle.press_world.specs.declared.replay_fault.ReplayFault.TheVariants.{NoMemory, WriteFault}
use Rattle.press_program.specs.KitFiles.{AreNamed, RefusesKit, fault_line, slip_front}
use Rattle.press_program.specs.Words.{Next}

-- ---- what is told of plugins

unfoldable pub task_line : List ℕ → List ℕ → List ℕ
task_line task name = codes "press: " ++ (task ++ (codes " " ++ (name ++ codes "\n")))

-- a line for each of these names
abbrev pub task_lines : List ℕ → List (String Global) → List ℕ
task_lines task [] = []
task_lines task (name ∷ names) = task_line task (string_bytes name) ++ task_lines task names

-- which plugins of the old kit go, and which of the next one come
abbrev pub tasks_of : NextKit → List ℕ
tasks_of next = task_lines (codes "deactivate") next.deactivate.items ++ task_lines (codes "activate") next.activate.items

-- ---- a run

abbrev pub kit_text : NextKit → List ℕ
kit_text next = string_bytes next.text ++ codes "\n"

abbrev pub no_kit_line : List ℕ
no_kit_line = codes "press: no kit can have all of both files\n"

-- a next kit is printed, and then what is told of plugins; or a front of it, where the output fails
abbrev pub Prints : NextKit → ℕ → Option (List ℕ) → Option (List ℕ) → Option (List ℕ) → Option (List ℕ) → Type 0
Prints next result out out' err err' =
    ((result ≡ 0) × Appends out out' (kit_text next) × AppendsFront err err' (tasks_of next))
    ⊎ ((result ≡ 2) × AppendsFront out out' (kit_text next) × AppendsFront err err' (fault_line WriteFault))

-- there is none, or no memory for it
abbrev pub TellsNone : ℕ → Option (List ℕ) → Option (List ℕ) → Option (List ℕ) → Option (List ℕ) → Type 0
TellsNone result out out' err err' = (result ≡ 2) × Keeps out out' × (AppendsFront err err' no_kit_line ⊎ AppendsFront err err' (fault_line NoMemory))

-- what comes of the bytes of the old file
abbrev pub NextsOf : List ℕ → ℕ → Option (List ℕ) → Option (List ℕ) → Option (List ℕ) → Option (List ℕ) → Type 0
NextsOf old result out out' err err' = ((next : NextKit) × IsNext old (string_bytes next.text) × Prints next result out out' err err') ⊎ TellsNone result out out' err err'

-- A kit file is read, whose slips are told, and then this is done with its bytes; or it can't be
-- used, which is told, and nothing else is done.
abbrev pub OverFile : List ℕ → (List ℕ → Option (List ℕ) → Type 0) → ℕ → Option (List ℕ) → Option (List ℕ) → Option (List ℕ) → Option (List ℕ) → Type 0
OverFile name Does result out out' err err' =
    RefusesKit (name ∷ []) result out out' err err'
    ⊎ ((file : File) × AreNamed (name ∷ []) (file ∷ []) × (told : List ℕ) × GivesSlips slip_front (read_together (file ∷ [])) told
    × (by_then : Option (List ℕ)) × AppendsFront err by_then told × Does file.bytes by_then)

-- the old file, and then the new one
abbrev pub Nexts : Next → ℕ → Option (List ℕ) → Option (List ℕ) → Option (List ℕ) → Option (List ℕ) → Type 0
Nexts it result out out' err err' =
    OverFile it.0 (λ old by_then. OverFile it.1 (λ new later. NextsOf old result out out' later err') result out out' by_then err') result out out' err err'

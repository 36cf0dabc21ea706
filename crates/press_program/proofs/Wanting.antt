-- What a run comes to, by what it was asked, where there is no memory to read its words.
use Rattle.std.proofs.Common.{◌≡◌, ℕ, List, [], ◌∷◌, inl, inr, length, refl}
use Rattle.std.specs.Prelude.{Option, Some, None, Err}
use Rattle.std.specs.Io.KnownBytes.{Keeps}
use Rattle.press_callbacks.specs.Kits.{KitView}
use Rattle.press_text.specs.Streams.{AppendsFront}
use Rattle.press_program.specs.declared.ending.Ending.TheVariants.{Fault}
use Rattle.press_world.specs.declared.replay_fault.ReplayFault.TheVariants.{NoMemory}
use Rattle.press_server.specs.declared.serve_fault.ServeFault.TheVariants as fault
use Rattle.press_demonstration.specs.Demonstration.{demonstration}
use Rattle.press_program.specs.Endings.{known_of, Does, Runs, RunsOver, ServeRelation}
use Rattle.press_program.specs.KitFiles.{fault_line}
use Rattle.press_program.specs.declared.kitting.KitSourceFault.TheVariants as source
use Rattle.press_program.specs.Words.{Arguments, Job, export, next, of_file, of_files, send, serve}
use Rattle.press_program.proofs.Ends.{outside_task}
use Rattle.press_program.proofs.Behind.{outside}

no_memory_for : (served : ServeRelation) (kit : KitView) (job : Job) (remaining : Option (List ℕ)) (status : ℕ) (out err err' : Option (List ℕ))
    → status ≡ 2 → Keeps out out → AppendsFront err err' (fault_line NoMemory) → Does served kit job remaining status out out err err'
no_memory_for served kit (of_file wanted) remaining status out err err' is kept told =
    (Fault NoMemory, out, outside_task kit wanted.1 (known_of wanted.0 remaining) out NoMemory tt, (is, kept, told))
no_memory_for served kit (of_files files) remaining status out err err' is kept told =
    (Fault NoMemory, outside kit files.target (known_of files.first remaining) (length files.further) (Fault NoMemory) tt, (is, kept, told))
no_memory_for served kit (serve server) remaining status out err err' is kept told = (Err fault.NoMemory, inl (refl, kept), is)
no_memory_for served kit (send mail) remaining status out err err' is kept told = inl (is, kept, inr told)
no_memory_for served kit (export it) remaining status out err err' is kept told = inl (is, kept, inr told)
no_memory_for served kit (next it) remaining status out err err' is kept told = inl (is, kept, [], source.NoMemory, tt, told)

no_memory_over : (served : ServeRelation) (names : List (List ℕ)) (job : Job) (remaining : Option (List ℕ)) (status : ℕ) (out err err' : Option (List ℕ))
    → status ≡ 2 → Keeps out out → AppendsFront err err' (fault_line NoMemory) → RunsOver served names job remaining status out out err err'
no_memory_over served [] job remaining status out err err' is kept told = no_memory_for served demonstration job remaining status out err err' is kept told
no_memory_over served (name ∷ names) job remaining status out err err' is kept told = inl (is, kept, [], source.NoMemory, tt, told)

pub no_memory : (served : ServeRelation) (asked : Option Arguments) (remaining : Option (List ℕ)) (status : ℕ) (out err err' : Option (List ℕ))
    → status ≡ 2 → Keeps out out → AppendsFront err err' (fault_line NoMemory) → Runs served asked remaining status out out err err'
no_memory served None remaining status out err err' is kept told = (is, kept, inr told)
no_memory served (Some asked) remaining status out err err' is kept told = no_memory_over served asked.kits asked.job remaining status out err err' is kept told

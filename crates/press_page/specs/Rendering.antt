-- What a page that is being built stands for, over a site that is only read.
use Rattle.std.specs.Prelude.{◌≡◌, true, false, Option, Some, None, Result, Ok, Err, IsErr}
use Rattle.std.specs.declared.alloc.AllocError.{AllocError}
use Rattle.press_callbacks.specs.Kits.{scripts_in}
use Rattle.press_callbacks.specs.declared.kit.Kit.{Kit}
use Rattle.press_run.specs.Links.{read_only}
use Rattle.press_run.specs.Run.{Meaning, State, callbacks_of}
use Rattle.press_run.specs.Outcome.{is_limit, state_of}
use Rattle.press_run.specs.declared.run_fault.RunFault.{RunFault}
use Rattle.press_run.specs.declared.run_fault.RunFault.TheVariants.{Limit, NoMemory}
use Rattle.press_run.specs.Standing.{machine_view}
use Rattle.press_page.specs.declared.rendering.Rendering.{Rendering}

abbrev pub state_in : Rendering → State
state_in r = state_of (machine_view (λ link. link.0.now) (λ link. Some link.0.now) r.machine)

-- what a kit's callbacks come to there
abbrev pub meaning_in : {t : _} {F : _} {g : _} → Kit t F g → Meaning
meaning_in kit = callbacks_of read_only (scripts_in kit)

-- where it tells no limit, none was met since
abbrev pub TellsLimits : {A : Type 0} → Result A RunFault → Rendering → Rendering → Type 0
TellsLimits result old new = is_limit result ≡ false → new.machine.met_limit ≡ true → old.machine.met_limit ≡ true

-- what was given, or nothing at a limit; out of memory is handed on
abbrev pub ButAtLimit : {A : Type 0} → Result A RunFault → Result (Option A) AllocError → Type 0
ButAtLimit (Ok x) result = result ≡ Ok (Some x)
ButAtLimit (Err Limit) result = result ≡ Ok None
ButAtLimit (Err NoMemory) result = IsErr result

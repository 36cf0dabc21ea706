-- That a limit is told as one (own): a machine shows it from where it is found, and who hands it on as out of memory doesn't tell what the machine shows.
use Rattle.std.specs.Prelude.{◌≡◌, ◌||◌, Result}
use Rattle.press_run.specs.declared.machine.Machine.{Machine}
use Rattle.press_run.specs.declared.run_fault.RunFault.{RunFault}
use Rattle.press_run.specs.Outcome.{is_limit}

-- a limit is shown where it is told, or was shown before
abbrev pub ShowsLimits : {L A : Type 0} → Result A RunFault → Machine L → Machine L → Type 0
ShowsLimits result old new = new.met_limit ≡ (is_limit result || old.met_limit)

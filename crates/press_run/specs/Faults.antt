-- The number of each fault of a run (own).
use Rattle.std.specs.Prelude.{ℕ}
use Rattle.press_run.specs.declared.run_fault.RunFault.{RunFault}
use Rattle.press_run.specs.declared.run_fault.RunFault.TheVariants.{Limit, NoMemory}

abbrev pub run_fault_number : RunFault → ℕ
run_fault_number NoMemory = 0
run_fault_number Limit = 20

-- The number of each fault of a name (own).
use Rattle.std.specs.Prelude.{ℕ}
use Rattle.press_text.specs.declared.name_fault.NameFault.{NameFault}
use Rattle.press_text.specs.declared.name_fault.NameFault.TheVariants.{NoMemory, BadName, TooLong}

abbrev pub name_fault_number : NameFault → ℕ
name_fault_number NoMemory = 0
name_fault_number BadName = 1
name_fault_number TooLong = 2

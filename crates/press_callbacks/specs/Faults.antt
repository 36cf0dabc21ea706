-- The number of each fault of a kit (own).
use Rattle.std.specs.Prelude.{ℕ}
use Rattle.press_callbacks.specs.declared.kit_fault.KitFault.{KitFault}
use Rattle.press_callbacks.specs.declared.kit_fault.KitFault.TheVariants.{NoMemory, TwoNames, UnknownCallback, BadLoad}

abbrev pub kit_fault_number : KitFault → ℕ
kit_fault_number NoMemory = 0
kit_fault_number TwoNames = 3
kit_fault_number UnknownCallback = 4
kit_fault_number BadLoad = 5
